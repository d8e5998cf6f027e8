use Rattle.std.proofs.Common.{◌≡◌, ◌||◌, sym, ap, ◌∙◌, arith}
use Rattle.device.specs.Meaning.{waits}
use Rattle.device.proofs.Waits.{waits-append}
use Rattle.staging.proofs.types.Staging.is_queued.Goals as goal

pub returns : goal.returns
returns g c =
    let b = c.args.block in
    let slices = c.as_slices.result in
    let parts : waits c.args.self.now.queue.items b ≡ (waits slices.0.now b || waits slices.1.now b) = ap (λ l. waits l b) (sym c.as_slices.ensures.items) ∙ waits-append slices.0.now slices.1.now b in
    grind (arith, parts)
