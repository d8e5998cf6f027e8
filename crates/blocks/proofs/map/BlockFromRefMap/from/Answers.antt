use Rattle.std.proofs.Common.{ap, ◌∙◌, rules}
use Rattle.finite.proofs.Made.{made_table}
use Rattle.blocks.specs.Bits.{bit, octet, packed}
use Rattle.blocks.specs.Maps.{marks}
use Rattle.blocks.proofs.Packed.{bit-packed}
use Rattle.blocks.proofs.map.BlockFromRefMap.from.Goals as goal

pub returns : goal.returns
unfolding packed
returns c =
    let value = made_table _ _ (octet (marks c.args.map.now.marks)) 64 (λ i y q h k. search rules) _ 0 c.from_fn.ensures.items in
    record { value = value; back = λ n h. ap (λ out. bit out n) value ∙ bit-packed (marks c.args.map.now.marks) n h }
