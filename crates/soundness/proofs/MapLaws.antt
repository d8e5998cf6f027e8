-- The maps: a bit is at fault unless it is set where it must be and clear where it must be.
use Rattle.std.proofs.Common.{◌≡◌, ℕ, ◌/◌, ◌<◌, ◌≤◌, Bool, true, false, cond, not, ◌&&◌, ltb, leb, sym, refl, inl, inr, arith}
use Rattle.std.proofs.lemmas.Bool.{cases_lt, true≢false}
use Rattle.std.proofs.lemmas.Bool.Decides.{nat_tests}
use Rattle.layout.specs.declared.refusal.Refusal.TheVariants.{BadMap}
use Rattle.finite.specs.Finite.{lowest}
use Rattle.blocks.specs.Bytes.{Block}
use Rattle.blocks.specs.Bits.{bit}
use Rattle.layout.specs.declared.geometry.Shape.{Shape}
use Rattle.layout.specs.Shapes.{Good, first_data}
use Rattle.soundness.specs.Media.{Medium, block}
use Rattle.soundness.specs.Faults.{bit_fault}
use Rattle.soundness.specs.Verdict.{found, at, map_verdict}
use Rattle.soundness.proofs.Cleared.{Spares, Clears, clears_found, clears_first}

-- bit n is set below `used`, and clear from `end` on
abbrev Right : Block → ℕ → ℕ → ℕ → Type 0
Right map used end n = (n < used → bit map n ≡ true) × (end ≤ n → bit map n ≡ false)

abbrev AllRight : Block → ℕ → ℕ → Type 0
AllRight map used end = (n : ℕ) → n < 512 → Right map used end n

abbrev pub Maps : Shape → Medium → Type 0
Maps g m = AllRight (block m 1) 1 g.inodes × AllRight (block m 2) (first_data g) g.blocks

spares_bit : (b : Bool) (used end n : ℕ) → used ≤ end
    → Spares (cond (ltb n used) (not b) (leb end n && b)) ((n < used → b ≡ true) × (end ≤ n → b ≡ false))
spares_bit true used end n h = (
  (λ e. ((λ l. refl), λ l. grind (arith, nat_tests))),
  λ f. elim (cases_lt n end) [ inl l ↦ grind (arith, nat_tests) | inr l ↦ absurd (true≢false (f.1 l)) ],
)
spares_bit false used end n h = (
  (λ e. ((λ l. grind (arith, nat_tests)), λ l. refl)),
  λ f. elim (cases_lt n used) [ inl l ↦ absurd (true≢false (sym (f.0 l))) | inr l ↦ grind (arith, nat_tests) ],
)

pub clears_maps : (g : Shape) (m : Medium) → Good g → Clears (map_verdict g m) (Maps g m)
clears_maps g m good =
    clears_first _ _ (clears 1 1 g.inodes (omega arith)) (λ _. clears 2 (first_data g) g.blocks (omega arith))
  where
    clears : (b used end : ℕ) → used ≤ end
        → Clears (found BadMap (λ n. at b (n / 8)) (lowest 512 (bit_fault (block m b) used end))) (AllRight (block m b) used end)
    clears b used end h =
        clears_found BadMap (λ n. at b (n / 8)) 512 (bit_fault (block m b) used end) (Right (block m b) used end)
        (λ n _. spares_bit (bit (block m b) n) used end n h)
