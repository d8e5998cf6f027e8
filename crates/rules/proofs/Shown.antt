-- What the reference rule shows.
use Rattle.std.proofs.Common.{◌≡◌, Bool, true, false, cond, ◌⊎◌, sym, refl, inl, inr}
use Rattle.rules.specs.References.{shown}

module _ {R : Type 0} (same : R → R → Bool) (empty goes ready : R → Bool) (exact : (a b : R) → same a b ≡ true → a ≡ b) (old new : R) where
  -- what is shown is the confirmed reference, or the view's: emptied, and the old one may go; or new, and its target is ready
  abbrev pub Shows : R → Type 0
  Shows r = (r ≡ old) ⊎ (((r ≡ new) × (empty new ≡ true) × (goes old ≡ true)) ⊎ ((r ≡ new) × (empty new ≡ false) × (ready new ≡ true)))

  pub shown_cases : Shows (shown same empty goes ready old new)
  shown_cases = by_same (same old new) refl (empty new) refl (goes old) refl (ready new) refl
    where
      by_same : (s : Bool) → same old new ≡ s → (e : Bool) → empty new ≡ e → (g : Bool) → goes old ≡ g → (r : Bool) → ready new ≡ r
          → Shows (cond s new (cond e (cond g new old) (cond r new old)))
      by_same true p e q g u r v = inl (sym (exact old new p))
      by_same false p true q true u r v = inr (inl (refl, q, u))
      by_same false p true q false u r v = inl refl
      by_same false p false q g u true v = inr (inr (refl, q, v))
      by_same false p false q g u false v = inl refl
