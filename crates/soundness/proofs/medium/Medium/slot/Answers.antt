use Rattle.std.proofs.Common.{rules}
use Rattle.soundness.proofs.SlotLaws.{no_entry}
use Rattle.soundness.proofs.medium.Medium.slot.Goals as goal

pub returns-in_err-get : goal.returns-in_err-get
returns-in_err-get c = search (rules, no_entry)
