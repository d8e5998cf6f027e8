use Rattle.std.proofs.Common.{ap, ◌∙◌}
use Rattle.layout.specs.Heads.{head_shape}
use Rattle.layout.proofs.Fresh.{head_spelled, head_back}
use Rattle.layout.proofs.geometry.Geometry.head.Goals as goal

pub returns : goal.returns
returns c =
    let g = c.args.self.now in
    let value = head_spelled g.shape g.good in
    record { value = value; back = ap head_shape value ∙ head_back g.shape g.good }
