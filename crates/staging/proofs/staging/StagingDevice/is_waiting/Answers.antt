use Rattle.std.proofs.Common.{◌≡◌, ◌||◌, ◌++◌, false, sym, ap, ◌∙◌, arith}
use Rattle.std.proofs.lemmas.Bool.{or_left}
use Rattle.device.specs.Meaning.{waits}
use Rattle.device.proofs.Waits.{waits-append}
use Rattle.staging.proofs.staging.StagingDevice.is_waiting.Goals as goal

pub returns-then-is_waiting : goal.returns-then-is_waiting
returns-then-is_waiting g c =
    let s = c.args.self.now in
    c.if-is_waiting.true ∙ sym (waits-append (g.D.Device.waiting s.inner) s.queue.items c.args.block ∙ or_left _ _ (sym c.if-is_waiting.ensures))

pub returns-else-is_waiting : goal.returns-else-is_waiting
returns-else-is_waiting g c =
    let s = c.args.self.now in
    let b = c.args.block in
    let queue = s.queue.items in
    let low = g.D.Device.waiting s.inner in
    let whole : waits (low ++ queue) b ≡ (false || waits queue b) = waits-append low queue b ∙ ap (λ t. t || waits queue b) (sym c.if-is_waiting.ensures) in
    grind (arith, whole)
