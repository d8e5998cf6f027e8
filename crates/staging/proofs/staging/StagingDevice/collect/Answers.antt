use Rattle.std.proofs.Common.{◌≡◌, Some, rules}
use Rattle.staging.proofs.Moves.{told_lands, landed_above, refilled}
use Rattle.staging.proofs.staging.StagingDevice.collect.Goals as goal

pub invariant_of-self-in-Some-clause-staged : goal.invariant_of-self-in-Some-clause-staged
invariant_of-self-in-Some-clause-staged g c =
    let s = c.args.self.now in
    let told : c.collect.result ≡ Some c.in_ok-block.block = search rules in
    (refilled c.in-Some.oldest c.submit.result s.staged (g.met.D.Device.kept s.inner).few (search rules) (told_lands c.collect.ensures told) c.submit.ensures.answer c.submit.ensures.after).0

pub returns-in-Some : goal.returns-in-Some
returns-in-Some g c =
    let s = c.args.self.now in
    let told : c.collect.result ≡ Some c.in_ok-block.block = search rules in
    (refilled c.in-Some.oldest c.submit.result s.staged (g.met.D.Device.kept s.inner).few (search rules) (told_lands c.collect.ensures told) c.submit.ensures.answer c.submit.ensures.after).1

pub returns-in_default : goal.returns-in_default
returns-in_default g c =
    let told : c.collect.result ≡ Some c.in_ok-block.block = search rules in
    landed_above (search rules) (told_lands c.collect.ensures told)
