use Rattle.std.proofs.Common.{Ok, rules}
use Rattle.soundness.proofs.Judged.{judged}
use Rattle.soundness.proofs.judgement.judge.Goals as goal

pub returns-in_err-geometry : goal.returns-in_err-geometry
returns-in_err-geometry c = judged c.args.table.now c.args.size _ (search rules) (search rules)

pub returns-in_err-check_body : goal.returns-in_err-check_body
returns-in_err-check_body c = judged c.args.table.now c.args.size _ (search rules) (search rules)

pub returns : goal.returns
returns c = judged c.args.table.now c.args.size (Ok c.in_ok-geometry.geometry) (search rules) (search rules)
