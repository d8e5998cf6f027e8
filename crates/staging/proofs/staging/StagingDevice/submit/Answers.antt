use Rattle.std.proofs.Common.{sym, subst, arith}
use Rattle.staging.specs.Staged.{Staged}
use Rattle.staging.proofs.Moves.{queued}
use Rattle.staging.proofs.staging.StagingDevice.submit.Goals as goal

pub invariant_of-self-2-clause-staged : goal.invariant_of-self-2-clause-staged
invariant_of-self-2-clause-staged g c =
    let s = c.args.self.now in
    subst (Staged _ s.room) (sym c.push_back_reserved.ensures.items)
    (queued c.args.write c.submit.result s.staged c.submit.ensures.answer c.submit.ensures.after (sym c.if-is_ok.ensures.value) (omega arith) (sym c.if-is_waiting.ensures))
