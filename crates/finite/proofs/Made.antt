-- An array that a closure makes, place by place, is a table.
use Rattle.std.proofs.Common.{◌≡◌, ℕ, zero, suc, ◌+◌, ◌<◌, ◌≤◌, List, get_or, sym, subst, ◌∙◌, ap, inl, inr, arith}
use Rattle.std.specs.Fn.{Mut, Called}
use Rattle.std.specs.Array.{IsFromFnResult, IsFromFnResultFrom}
use Rattle.std.proofs.lemmas.Bool.{cases_eq}
use Rattle.finite.specs.Finite.{table}
use Rattle.finite.proofs.Tables.{table_is}

-- the closure answers p of each place below m, and a call leaves it as it was
module _ {F B : Type 0} (g : Mut F (ℕ × Unit {0}) B) (f : F) (p : ℕ → B) (m : ℕ)
    (same : (i : ℕ) (y : B) (q : F) → i < m → Called g f (i, tt) y q → (q ≡ f) × (y ≡ p i)) (ys : List B) where
  made : (i n : ℕ) → i + n ≡ m → IsFromFnResultFrom g f ys i n → (k : ℕ) (d : B) → i ≤ k → k < m → get_or ys k d ≡ p k
  made i zero e calls k d l h = absurd (omega arith)
  made i (suc n) e (q, y, is, call, rest) k d l h =
      let here = same i y q (omega arith) call in
      elim (cases_eq k i) [
        | inl s ↦ ap (λ j. get_or ys j d) s ∙ is.1 d ∙ here.1 ∙ ap p (sym s)
        | inr t ↦ made (i + 1) n (omega arith) (subst (λ c. IsFromFnResultFrom g c ys (i + 1) n) here.0 rest) k d (omega arith) h
      ]

  pub made_table : (d : B) → IsFromFnResult g f ys m → ys ≡ table m p
  made_table d r = table_is m p ys d r.long (λ k h. made 0 m (omega arith) r.each k d (omega arith) h)
