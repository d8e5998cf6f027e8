use Rattle.std.proofs.Common.{◌+◌, ◌%◌, rules}
use Rattle.bottoms.specs.Channels.{oldest}
use Rattle.bottoms.proofs.Found.{First, first_from_find_map}
use Rattle.bottoms.proofs.Picks.{picked_first, picked_found}
use Rattle.bottoms.proofs.banked.channels.pick.Goals as goal

pub returns : goal.returns
returns c =
    let first : First 4 (λ k. oldest ((c.args.next + k) % 4) c.args.queue.now) c.find_map.result =
    first_from_find_map _ _ _ (λ x r q k. search rules) 4 c.find_map.result c.find_map.ensures.runs in
    record {
      value = picked_first 4 c.args.queue.now c.args.next c.find_map.result first;
      found = picked_found c.args.queue.now c.args.next c.find_map.result first;
    }
