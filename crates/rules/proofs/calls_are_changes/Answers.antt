-- named by hand: `using` on the function does not close this one
use Rattle.rules.proofs.Allowed.{calls_are_changes}
use Rattle.rules.proofs.calls_are_changes.Goals as goal

pub returns : goal.returns
returns c = calls_are_changes
