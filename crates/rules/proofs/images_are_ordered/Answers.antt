-- named by hand: `using` on the function does not close this one
use Rattle.rules.proofs.Ordering.{images_are_ordered}
use Rattle.rules.proofs.images_are_ordered.Goals as goal

pub returns : goal.returns
returns c = images_are_ordered
