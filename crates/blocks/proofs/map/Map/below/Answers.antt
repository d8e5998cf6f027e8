use Rattle.std.proofs.Common.{false, ltb, rules}
use Rattle.finite.proofs.Made.{made_table}
use Rattle.blocks.proofs.map.Map.below.Goals as goal

pub returns : goal.returns
returns c = made_table _ _ (λ k. ltb k c.args.n) 512 (λ i y q h k. search rules) _ false c.from_fn.ensures.items
