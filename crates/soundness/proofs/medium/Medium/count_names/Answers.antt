use Rattle.std.proofs.Common.{rules, tests, ◌==◌, count_by, sym, ap, ◌∙◌, refl, arith}
use lib.ListN.{get_or-replicate}
use Rattle.std.proofs.lemmas.List.{map-id}
use Rattle.std.proofs.lemmas.Iterator.{YieldsList-from_range}
use Rattle.std.proofs.lemmas.Iterator.Consumers.{YieldsList-at, YieldsList-from_filter_map, YieldsList-end}
use Rattle.layout.specs.Shapes.{slots}
use Rattle.layout.specs.Entries.{target}
use Rattle.soundness.proofs.Tallies.{held, tallied}
use Rattle.soundness.proofs.medium.Medium.count_names.Goals as goal

pub loop-entry-init : goal.loop-entry-init
loop-entry-init c = record { can_next = search rules; is_finite = tt; few = omega arith; long = refl; counted = λ i h. get_or-replicate 32 i 0 0 h }

pub returns : goal.returns
returns c i h =
    let g = c.args.self.now.geometry.shape in
    let m = c.args.self.now.table.now in
    let all = YieldsList-end
    (YieldsList-at c.into_iter-entry-iterator.ensures.into_iter_gives (YieldsList-from_filter_map _ (held g m)
    (YieldsList-at c.filter_map-entry-items.ensures.source (YieldsList-from_range 0 (slots g) (slots g) (cc) (omega arith))) c.filter_map-entry-items.ensures.closure
    (λ x r q k. search (rules, tests))))
    c.loop-entry.yielded _ c.loop-entry.yielded_by _ _ c.in-None.is c.next.ensures.steps in
    c.loop-entry.invariant.counted i h ∙ ap (count_by (λ e. target e == i)) (sym (map-id _) ∙ all.0) ∙ tallied g m i (slots g)
