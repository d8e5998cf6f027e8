use Rattle.std.proofs.Common.{rules, ◌≡◌, None, ap, ◌∙◌}
use Rattle.layout.specs.Heads.{head_of, head_shape}
use Rattle.soundness.specs.Verdict.{head_verdict}
use Rattle.soundness.proofs.HeadLaws.{accepted_back}
use Rattle.soundness.proofs.head.read_head.Goals as goal

pub returns-clause-back : goal.returns-clause-back
returns-clause-back c =
    let head = c.args.head.now in
    let accepted : head_verdict head c.args.size ≡ None = search rules in
    let told : record { blocks = c.args.size; inodes = c.from.result; directory = c.from-2.result } ≡ head_shape head = search rules in
    ap head_of told ∙ accepted_back head c.args.size c.told-head accepted
