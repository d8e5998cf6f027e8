use Rattle.std.proofs.Common.{◌≡◌, ℕ, Bool, true, false, refl, subst, arith}
use Rattle.std.proofs.lemmas.Iterator.{serves_from_Range, cases_from_all, YieldsList-from_range}
use Rattle.std.proofs.lemmas.List.FromFn.{length-range_with_len}
use Rattle.finite.specs.Finite.{every}
use Rattle.finite.proofs.Asked.{every_asked, numbers, told}
use Rattle.finite.proofs.every.Goals as goal

pub all-requires-clause-callable : goal.all-requires-clause-callable
all-requires-clause-callable g c = serves_from_Range (λ x q k. g.met.F.Fn.1.step_stays _ _ _ _ (record { met = k.met })) (λ x l h. c.requires x h)

pub returns : goal.returns
returns g c p tells =
    let n = c.args.limit in
    let answers = λ (x : ℕ) (b : Bool). g.F.Fn.post c.args.test (x, tt) b in
    let all = cases_from_all _ _ _ (λ x. answers x true) (λ x. answers x false) c.all.ensures.ran (YieldsList-from_range 0 _ n refl (omega arith))
    (λ x q k. (g.met.F.Fn.1.step_stays _ _ _ _ (record { met = k.met }), (g.met.F.FnMut.1.post_iff _ _ _).1 (q, record { met = k.met })))
    (λ x q k. (g.met.F.FnMut.1.post_iff _ _ _).1 (q, record { met = k.met })) in
    let found : c.all.result ≡ every n p = subst (λ m. c.all.result ≡ every m p) (length-range_with_len 0 n) (every_asked (numbers n) 0 p (λ x. answers x true) (λ x. answers x false) (told n answers p tells true) (told n answers p tells false) c.all.result all) in
    grind (arith, found)
