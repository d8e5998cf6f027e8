use Rattle.std.proofs.Common.{◌≡◌}
use Rattle.blocks.specs.Images.{with_blocks}
use Rattle.layout.specs.Fresh.{fresh_block}
use Rattle.layout.proofs.empty.prepare.Given as goal

abbrev pub invariant-loop-b : goal.invariant-loop-b
invariant-loop-b l = l.image ≡ with_blocks (fresh_block l.geometry.shape) l.b l.initial.image
