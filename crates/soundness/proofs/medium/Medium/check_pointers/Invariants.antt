use Rattle.soundness.proofs.Led.{Passed}
use Rattle.soundness.proofs.medium.Medium.check_pointers.Given as goal

abbrev pub invariant-loop-q : goal.invariant-loop-q
invariant-loop-q l = Passed l.self.geometry.shape l.self.table.now l.q l.led
