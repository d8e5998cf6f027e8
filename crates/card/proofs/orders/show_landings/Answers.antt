use Rattle.std.proofs.Common.{length, ap, arith}
use Rattle.std.proofs.lemmas.List.Edits.{length-remove}
use Rattle.device.specs.Meaning.{Meaning}
use Rattle.card.proofs.orders.show_landings.Goals as goal

pub loop-block-smaller : goal.loop-block-smaller
loop-block-smaller g c =
    let lands = c.in-Some.ensures in
    let gone = length-remove (g.D.Device.waiting c.loop-block.device) lands.place lands.within in
    let left = ap (λ (m : Meaning). length m.waiting) lands.leaves in
    omega (arith, gone, left)
