use Rattle.std.proofs.Common.{length}
use Rattle.card.proofs.orders.show_landings.Given as goal

-- a write less waits after each turn
abbrev pub decreases-loop-block : goal.decreases-loop-block
decreases-loop-block g l = length (g.D.Device.waiting l.device)
