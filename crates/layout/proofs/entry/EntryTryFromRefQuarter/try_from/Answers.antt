use Rattle.std.proofs.Common.{◌∙◌}
use Rattle.layout.proofs.Coded.{entry_from}
use Rattle.layout.proofs.entry.EntryTryFromRefQuarter.try_from.Goals as goal

pub returns : goal.returns
returns c =
    entry_from c.args.bytes.now c.told-bytes c.word.result c.in_ok-name.name.bytes c.word.ensures.value c.word.ensures.low_byte c.word.ensures.high_byte
    (c.in_ok-name.ensures ∙ c.title.ensures)
