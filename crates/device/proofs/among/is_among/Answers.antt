use Rattle.std.proofs.Common.{◌≡◌, ◌==◌, ◌∙◌, rules, tests, arith}
use Rattle.std.proofs.lemmas.Iterator.{YieldsList-from_slice}
use Rattle.std.proofs.lemmas.Iterator.Search.{any_from_yields_List}
use Rattle.device.specs.Meaning.{waits}
use Rattle.device.proofs.Waits.{waits_any}
use Rattle.device.proofs.among.is_among.Goals as goal

pub returns : goal.returns
returns c =
    let ws = c.args.writes.now in
    let b = c.args.block in
    let found : c.any.result ≡ waits ws b =
    any_from_yields_List (λ w. w.block == b) _ _ _ c.any.ensures.ran (YieldsList-from_slice ws cc) (λ x v q k. search (rules, tests)) ∙ waits_any ws b in
    grind (arith, found)
