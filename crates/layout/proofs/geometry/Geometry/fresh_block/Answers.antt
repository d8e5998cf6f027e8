use Rattle.std.proofs.Common.{ltb, sym, ap, ◌∙◌}
use Rattle.blocks.specs.Bits.{packed}
use Rattle.layout.specs.Fresh.{fresh_block}
use Rattle.blocks.proofs.Packed.{packed-table}
use Rattle.layout.proofs.geometry.Geometry.fresh_block.Goals as goal

pub returns-in-1 : goal.returns-in-1
returns-in-1 c =
    c.from.ensures.value ∙ packed-table c.below.result.marks (λ n. ltb n 1) c.below.ensures
    ∙ ap (fresh_block c.args.self.now.shape) (sym c.in-1.is)

pub returns-in-2 : goal.returns-in-2
returns-in-2 c =
    let marks = c.below-in-2.result.marks in
    c.from-in-2.ensures.value ∙ packed-table marks (λ n. ltb n c.first_data.result) c.below-in-2.ensures
    ∙ ap (λ end. packed (λ n. ltb n end)) c.first_data.ensures
    ∙ ap (fresh_block c.args.self.now.shape) (sym c.in-2.is)
