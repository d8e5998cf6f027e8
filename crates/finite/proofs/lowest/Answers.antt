use Rattle.std.proofs.Common.{◌≡◌, ℕ, Bool, true, false, refl, subst, arith}
use Rattle.std.proofs.lemmas.Iterator.{serves_from_Range, IsFirst-from_position, YieldsList-from_range}
use Rattle.std.proofs.lemmas.List.FromFn.{length-range_with_len}
use Rattle.finite.specs.Finite.{lowest}
use Rattle.finite.proofs.Asked.{lowest_asked, numbers, told}
use Rattle.finite.proofs.lowest.Goals as goal

pub position-requires-clause-callable : goal.position-requires-clause-callable
position-requires-clause-callable g c = serves_from_Range (λ x q k. g.met.F.Fn.1.step_stays _ _ _ _ (record { met = k.met })) (λ x l h. c.requires x h)

pub returns-clause-value : goal.returns-clause-value
returns-clause-value g c p tells =
    let n = c.args.limit in
    let answers = λ (x : ℕ) (b : Bool). g.F.Fn.post c.args.test (x, tt) b in
    let position = IsFirst-from_position _ _ _ (λ x. answers x true) (λ x. answers x false) c.position.ensures.ran (YieldsList-from_range 0 _ n refl (omega arith))
    (λ x q k. (g.met.F.FnMut.1.post_iff _ _ _).1 (q, record { met = k.met }))
    (λ x q k. (g.met.F.Fn.1.step_stays _ _ _ _ (record { met = k.met }), (g.met.F.FnMut.1.post_iff _ _ _).1 (q, record { met = k.met }))) in
    let found : c.position.result ≡ lowest n p = subst (λ m. c.position.result ≡ lowest m p) (length-range_with_len 0 n) (lowest_asked (numbers n) 0 p (λ x. answers x true) (λ x. answers x false) (told n answers p tells true) (told n answers p tells false) c.position.result position) in
    grind (arith, found)
