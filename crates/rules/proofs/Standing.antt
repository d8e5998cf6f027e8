-- What the tests of standing copies decide.
use Rattle.std.proofs.Common.{◌≡◌, ℕ, Bool, true, false, Decides, sym, refl, ap, ◌∙◌, inl, inr}
use Rattle.std.proofs.lemmas.Bool.{and_parts, and_from, or_cases, or_left, or_right, or_parts, or_from}
use Rattle.blocks.specs.Bytes.{Block}
use Rattle.device.specs.Meaning.{Meaning}
use Rattle.rules.specs.Standing.{Copy, confirmed, newest, firm, stands}
use Rattle.rules.specs.Ordering.{Firmly}

module _ (d : Meaning) (b : ℕ) (test : Block → Bool) where
  -- a test is firm exactly if every standing copy passes it
  pub firm_decides : Decides (firm d b test) (Firmly d b (λ c. test c ≡ true))
  unfolding firm
  firm_decides = (
    (λ e c copy. let parts = and_parts _ _ e in elim copy [ inl q ↦ ap test q ∙ parts.0 | inr q ↦ ap test q ∙ parts.1 ]),
    λ f. and_from _ _ (f (confirmed d b) (inl refl)) (f (newest d b) (inr refl)),
  )

  -- none stands exactly if every standing copy fails it
  pub stands_false : stands d b test ≡ false → Firmly d b (λ c. test c ≡ false)
  unfolding stands
  stands_false e c copy = let parts = or_parts _ _ e in elim copy [ inl q ↦ ap test q ∙ parts.0 | inr q ↦ ap test q ∙ parts.1 ]

  pub false_stands : Firmly d b (λ c. test c ≡ false) → stands d b test ≡ false
  unfolding stands
  false_stands f = or_from _ _ (f (confirmed d b) (inl refl)) (f (newest d b) (inr refl))

  -- some copy that passes it stands
  pub stands_decides : Decides (stands d b test) ((c : Block) × Copy d b c × (test c ≡ true))
  unfolding stands
  stands_decides = (
    (λ e. elim (or_cases _ _ e) [ inl t ↦ (confirmed d b, inl refl, t) | inr t ↦ (newest d b, inr refl, t) ]),
    λ f. elim f.1 [ inl q ↦ or_left _ _ (ap test (sym q) ∙ f.2) | inr q ↦ or_right _ _ (ap test (sym q) ∙ f.2) ],
  )
