-- Keys that stand once: of all that has a key, no earlier one has the same.
use Rattle.std.proofs.Common.{◌≡◌, ℕ, ◌<◌, ◌⊎◌, sym, inl, inr}
use Rattle.std.proofs.lemmas.Bool.{cases_order}

module _ {A : Type 0} (key : ℕ → A) (Void : ℕ → Type 0) (n : ℕ) where
  -- what has the key of a void one is void
  abbrev pub Carried : Type 0
  Carried = (s t : ℕ) → s < n → key s ≡ key t → Void t → Void s

  -- each below n is void, or those before it with its key are
  abbrev pub FirstOf : Type 0
  FirstOf = (s : ℕ) → s < n → Void s ⊎ ((t : ℕ) → t < s → key t ≡ key s → Void t)

  pub alone : Carried → FirstOf → (s t : ℕ) → s < n → t < n → key s ≡ key t → Void s ⊎ (s ≡ t)
  alone carried each s t hs ht e =
      elim (cases_order s t) [
        | inl q ↦ inr q
        | inr w ↦ elim w [
          | inl l ↦ elim (each t ht) [ inl v ↦ inl (carried s t hs e v) | inr f ↦ inl (f s l e) ]
          | inr l ↦ elim (each s hs) [ inl v ↦ inl v | inr f ↦ inl (carried s t hs e (f t l (sym e))) ]
        ]
      ]
