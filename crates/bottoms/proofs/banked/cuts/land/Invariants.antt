use Rattle.std.proofs.Common.{◌≡◌, ◌+◌, ◌≤◌, drop}
use Rattle.device.specs.Cuts.{cut_count, cut_medium}
use Rattle.bottoms.specs.Cuts.{cut_image}
use Rattle.bottoms.specs.Used.{blocks_of, used as used_of}
use Rattle.bottoms.proofs.banked.cuts.land.Given as goal

abbrev pub invariant-loop-w : goal.invariant-loop-w
invariant-loop-w l = record {
  count : cut_count l.mask l.queue ≡ l.count + cut_count l.bits (drop l.w-index l.queue);
  bytes : cut_image l.mask l.queue l.initial.image.0.items ≡ cut_image l.bits (drop l.w-index l.queue) l.image.0.items;
  blocks : cut_medium l.mask l.queue (blocks_of l.initial.image.0.items) ≡ cut_medium l.bits (drop l.w-index l.queue) (blocks_of l.image.0.items);
  used : used_of l.image.0.items ≡ used_of l.initial.image.0.items;
  few : l.count ≤ l.w-index;
}
