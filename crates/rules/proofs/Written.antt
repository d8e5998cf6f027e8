-- What a list holds after one element of it is written.
use Rattle.std.proofs.Common.{◌≡◌, ℕ, List, length, get_or, set, sym, ap, ◌∙◌, subst, inl, inr, get_or-set_other, get_or-set_same}
use Rattle.std.proofs.lemmas.Bool.{cases_eq, cases_lt}
use Rattle.std.proofs.lemmas.List.{set_past}

-- what holds of the element at k, and of the one that is written if it is written there, holds at k afterwards
pub after_set : {A : Type 0} (P : A → Type 0) (xs : List A) (i k : ℕ) (a d : A) → (k ≡ i → P a) → P (get_or xs k d) → P (get_or (set xs i a) k d)
after_set P xs i k a d here there = elim (cases_eq k i) [
  | inl q ↦ elim (cases_lt i (length xs)) [
    | inl l ↦ subst P (sym (ap (λ n. get_or (set xs i a) n d) q ∙ get_or-set_same xs i a d l)) (here q)
    | inr l ↦ subst P (sym (ap (λ ys. get_or ys k d) (set_past xs i a l))) there
  ]
  | inr n ↦ subst P (sym (get_or-set_other xs i k a d n)) there
]
