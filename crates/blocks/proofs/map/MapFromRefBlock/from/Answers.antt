use Rattle.std.proofs.Common.{false, ◌∙◌, rules}
use Rattle.finite.proofs.Made.{made_table}
use Rattle.blocks.specs.Bits.{bit}
use Rattle.blocks.proofs.Packed.{packed-table, packed-bit}
use Rattle.blocks.proofs.map.MapFromRefBlock.from.Goals as goal

pub returns : goal.returns
returns c =
    let block = c.args.block.now in
    let value = made_table _ _ (bit block) 512 (λ i y q h k. search rules) _ false c.from_fn.ensures.items in
    record { value = value; back = packed-table c.from_fn.result (bit block) value ∙ packed-bit block c.fits-block c.told-block }
