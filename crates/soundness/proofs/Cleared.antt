-- When a verdict names no fault: the laws of its parts, and of the tests it asks.
use Rattle.std.proofs.Common.{◌≡◌, ℕ, ◌<◌, ◌≤◌, Bool, true, false, not, ◌&&◌, ◌||◌, ltb, leb, ◌⊎◌, is_some, Some, None, Decides, Option, sym, refl, ap, inl, inr}
use Rattle.std.proofs.lemmas.Bool.{true≢false, not-false, not_from_true, ltb-false, le-ltb, leb-true, le-leb, and_cases, and_left, and_right, or_parts, or_from}
use Rattle.layout.specs.declared.refusal.Place.{Place}
use Rattle.layout.specs.declared.refusal.Refusal.{Refusal}
use Rattle.finite.specs.Finite.{exists, lowest}
use Rattle.finite.proofs.Decided.{exists_none, none_exists, lowest_none, none_lowest}
use Rattle.soundness.specs.Verdict.{first, unless, found}

-- a test of a fault fails exactly when P holds
abbrev pub Spares : Bool → Type 0 → Type 0
Spares fault P = (fault ≡ false → P) × (P → fault ≡ false)

-- no refusal is named exactly when P holds
abbrev pub Clears : Option Refusal → Type 0 → Type 0
Clears o P = (o ≡ None → P) × (P → o ≡ None)

-- tests
pub decides_leb : (a b : ℕ) → Decides (leb a b) (a ≤ b)
decides_leb a b = (leb-true a b, le-leb a b)

pub decides_itself : (b : Bool) → Decides b (b ≡ true)
decides_itself b = ((λ e. e), λ e. e)

-- tests of a fault
pub spares_not : {P : Type 0} (b : Bool) → Decides b P → Spares (not b) P
spares_not b d = ((λ e. d.0 (not-false b e)), λ p. not_from_true b (d.1 p))

pub spares_no : {P : Type 0} (b : Bool) → Decides b P → Spares b (P → ⊥)
spares_no {P} true d = ((λ e. absurd (true≢false e)), λ no. absurd (no (d.0 refl)))
spares_no {P} false d = ((λ e p. true≢false (sym (d.1 p))), λ _. refl)

module _ {P Q : Type 0} where
  -- it fails where an excuse holds
  pub spares_but : (x b : Bool) → Decides x P → Spares b Q → Spares (not x && b) (P ⊎ Q)
  spares_but x b d s = (
    (λ e. elim (and_cases (not x) b e) [ inl f ↦ inl (d.0 (not-false x f)) | inr f ↦ inr (s.0 f) ]),
    (λ u. elim u [ inl p ↦ and_left (not x) b (not_from_true x (d.1 p)) | inr q ↦ and_right (not x) b (s.1 q) ]),
  )

  pub spares_or : (a b : Bool) → Spares a P → Spares b Q → Spares (a || b) (P × Q)
  spares_or a b s t = ((λ e. let parts = or_parts a b e in (s.0 parts.0, t.0 parts.1)), λ h. or_from a b (s.1 h.0) (t.1 h.1))

pub spares_ltb : (a b : ℕ) → Spares (ltb a b) (b ≤ a)
spares_ltb a b = (ltb-false a b, le-ltb a b)

pub spares_exists : (n : ℕ) (p : ℕ → Bool) (P : ℕ → Type 0) → ((k : ℕ) → Spares (p k) (P k)) → Spares (exists n p) ((k : ℕ) → k < n → P k)
spares_exists n p P each =
    ((λ e k h. (each k).0 (exists_none p n e k h)), λ f. none_exists p n (λ k h. (each k).1 (f k h)))

-- verdicts
clears_unless : {P : Type 0} (t : Bool) (r : Refusal) → Decides t P → Clears (unless t r) P
clears_unless {P} true r d = ((λ _. d.0 refl), λ _. refl)
clears_unless {P} false r d = ((λ e. absurd (true≢false (ap is_some e))), λ p. absurd (true≢false (sym (d.1 p))))

pub clears_found : (refuse : Place → Refusal) (place : ℕ → Place) (n : ℕ) (p : ℕ → Bool) (P : ℕ → Type 0)
    → ((k : ℕ) → k < n → Spares (p k) (P k)) → Clears (found refuse place (lowest n p)) ((k : ℕ) → k < n → P k)
clears_found refuse place n p P each = (
  (λ e k h. (each k h).0 (lowest_none p n (none_found (lowest n p) e) k h)),
  (λ f. ap (found refuse place) (none_lowest p n (λ k h. (each k h).1 (f k h)))),
)
  where
    none_found : (o : Option ℕ) → found refuse place o ≡ None → o ≡ None
    none_found (Some k) e = absurd (true≢false (ap is_some e))
    none_found None e = refl

-- what the second clears may rest on what the first clears
pub clears_first : {P Q : Type 0} (a b : Option Refusal) → Clears a P → (P → Clears b Q) → Clears (first a b) (P × Q)
clears_first {P} {Q} (Some r) b c d = ((λ e. absurd (true≢false (ap is_some e))), λ h. absurd (true≢false (ap is_some (c.1 h.0))))
clears_first {P} {Q} None b c d = let p = c.0 refl in ((λ e. (p, (d p).0 e)), λ h. (d h.0).1 h.1)

pub clears_then : {P Q : Type 0} (t : Bool) (r : Refusal) (b : Option Refusal) → Decides t P → Clears b Q → Clears (first (unless t r) b) (P × Q)
clears_then t r b d c = clears_first (unless t r) b (clears_unless t r d) (λ _. c)

pub clears_like : {P Q : Type 0} (o : Option Refusal) → (P → Q) → (Q → P) → Clears o P → Clears o Q
clears_like o there back c = ((λ e. there (c.0 e)), λ q. c.1 (back q))

pub clears_decides : {P : Type 0} (o : Option Refusal) → Clears o P → Decides (not (is_some o)) P
clears_decides {P} (Some r) c = ((λ e. absurd (true≢false (sym e))), λ p. absurd (true≢false (ap is_some (c.1 p))))
clears_decides {P} None c = ((λ _. c.0 refl), λ _. refl)
