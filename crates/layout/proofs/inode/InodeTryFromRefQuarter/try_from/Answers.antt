use Rattle.std.proofs.Common.{◌+◌, ◌*◌, get_or, ap, ◌∙◌, arith, rules}
use Rattle.finite.proofs.Tables.{get_or-table}
use Rattle.finite.proofs.Made.{made_table}
use Rattle.blocks.specs.Bytes.{word}
use Rattle.layout.proofs.Coded.{file_from}
use Rattle.layout.proofs.inode.InodeTryFromRefQuarter.try_from.Goals as goal

pub returns : goal.returns
returns c =
    let bytes = c.args.bytes.now in
    let pointers = made_table _ _ (λ k. word bytes (4 + 2 * k)) 6 (λ i y q h k. search rules) _ 0 c.from_fn.ensures.items in
    file_from bytes c.fits-bytes c.word.result c.from_fn.result c.told-bytes (omega arith) (omega arith) c.word.ensures.value
    (λ k h. ap (λ p. get_or p k 0) pointers ∙ get_or-table 6 (λ j. word bytes (4 + 2 * j)) k 0 h)
