use Rattle.std.proofs.Common.{◌≡◌, ℕ, Bool, true, false, refl, subst, arith}
use Rattle.std.proofs.lemmas.Iterator.{serves_from_Range, cases_from_any, YieldsList-from_range}
use Rattle.std.proofs.lemmas.List.FromFn.{length-range_with_len}
use Rattle.finite.specs.Finite.{exists}
use Rattle.finite.proofs.Asked.{exists_asked, numbers, told}
use Rattle.finite.proofs.exists.Goals as goal

pub any-requires-clause-callable : goal.any-requires-clause-callable
any-requires-clause-callable g c = serves_from_Range (λ x q k. g.met.F.Fn.1.step_stays _ _ _ _ (record { met = k.met })) (λ x l h. c.requires x h)

pub returns : goal.returns
returns g c p tells =
    let n = c.args.limit in
    let answers = λ (x : ℕ) (b : Bool). g.F.Fn.post c.args.test (x, tt) b in
    let any = cases_from_any _ _ _ (λ x. answers x true) (λ x. answers x false) c.any.ensures.ran (YieldsList-from_range 0 _ n refl (omega arith))
    (λ x q k. (g.met.F.FnMut.1.post_iff _ _ _).1 (q, record { met = k.met }))
    (λ x q k. (g.met.F.Fn.1.step_stays _ _ _ _ (record { met = k.met }), (g.met.F.FnMut.1.post_iff _ _ _).1 (q, record { met = k.met }))) in
    let found : c.any.result ≡ exists n p = subst (λ m. c.any.result ≡ exists m p) (length-range_with_len 0 n) (exists_asked (numbers n) 0 p (λ x. answers x true) (λ x. answers x false) (told n answers p tells true) (told n answers p tells false) c.any.result any) in
    grind (arith, found)
