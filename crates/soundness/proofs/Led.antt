-- Pointers in one pass: which blocks have been led to.
use Rattle.std.proofs.Common.{◌≡◌, ℕ, ◌+◌, ◌<◌, ◌≤◌, Bool, true, false, not, ◌&&◌, ◌||◌, eqb, ltb, leb, List, length, get_or, set, replicate, Some, None, sym, refl, ap, ◌∙◌, inl, inr, arith}
use lib.ListN.{get_or-replicate}
use Rattle.std.proofs.lemmas.List.{length-set, get_or-set_same, get_or-set_other}
use Rattle.std.proofs.lemmas.Bool.{ltb-true, and_parts, cases_eq, eq-eqb, ne_eqb, or_right, or_left, or_from, and_from, and_left, and_right, not_from_true, not_from_false}
use Rattle.finite.specs.Finite.{exists, lowest}
use Rattle.finite.proofs.Decided.{exists_more, lowest_miss, lowest_hit}
use Rattle.layout.specs.declared.refusal.Refusal.TheVariants.{BadPointer}
use Rattle.blocks.specs.Bits.{bit}
use Rattle.layout.specs.declared.geometry.Shape.{Shape}
use Rattle.layout.specs.Shapes.{first_data}
use Rattle.soundness.specs.Media.{Medium, block}
use Rattle.soundness.specs.Faults.{pointer_at, marked_data, pointer_fault}
use Rattle.soundness.specs.Verdict.{found, pointer_place}

or_false : (t : Bool) → t || false ≡ t
or_false true = refl
or_false false = refl

module _ (g : Shape) (m : Medium) where
  -- one of the pointers below q leads to b
  abbrev pub leads_to : ℕ → ℕ → Bool
  leads_to q b = exists q (λ r. eqb (pointer_at m r) b)

  -- none of them is at fault, and the marks say which blocks they lead to
  pub record Passed (q : ℕ) (led : List Bool) : Type 0 where
    pub sound : lowest q (pointer_fault g m) ≡ None
    pub long : length led ≡ 128
    pub marks : (b : ℕ) → 1 ≤ b → b < 128 → get_or led b false ≡ leads_to q b

  pub none_passed : Passed 0 (replicate 128 false)
  unfolding lowest exists
  none_passed = record { sound = refl; long = refl; marks = λ b some few. get_or-replicate 128 b false false few }

  -- a card has at most 128 blocks
  pub data_few : (b : ℕ) → g.blocks ≤ 128 → marked_data g m b ≡ true → b < 128
  data_few b few marked =
      let area = (and_parts (leb (first_data g) b && ltb b g.blocks) (bit (block m 2) b) marked).0 in
      let below : b < g.blocks = ltb-true b g.blocks (and_parts (leb (first_data g) b) (ltb b g.blocks) area).1 in
      omega arith

  module _ (q b : ℕ) (led : List Bool) (passed : Passed q led) (is : b ≡ pointer_at m q) where
    leads_more : (k : ℕ) → leads_to (q + 1) k ≡ leads_to q k || eqb b k
    leads_more k = exists_more (λ r. eqb (pointer_at m r) k) q ∙ (λ j. leads_to q k || eqb (sym is j) k)

    -- a pointer of 0 leads nowhere
    pub leads_nowhere : b ≡ 0 → Passed (q + 1) led
    leads_nowhere none = record {
      sound = lowest_miss (pointer_fault g m) q passed.sound (and_left _ _ (not_from_true _ (eq-eqb _ 0 (sym is ∙ none))));
      long = passed.long;
      marks = λ k some few. passed.marks k some few ∙ sym (leads_more k ∙ ap (λ t. leads_to q k || t) (ne_eqb b k (λ e. omega arith)) ∙ or_false (leads_to q k));
    }

    module _ (some : b ≡ 0 → ⊥) where
      fault_from : not (marked_data g m (pointer_at m q)) || leads_to q (pointer_at m q) ≡ true → pointer_fault g m q ≡ true
      fault_from wrong = and_from _ _ (not_from_false _ (ne_eqb _ 0 (λ e. some (is ∙ e)))) wrong

      -- it leads to a block that is not marked, or not of the data area
      pub fault_unmarked : marked_data g m b ≡ false → pointer_fault g m q ≡ true
      fault_unmarked e = fault_from (or_left _ _ (not_from_false _ (ap (marked_data g m) (sym is) ∙ e)))

      -- it leads to a block to which an earlier one leads
      pub fault_twice : b < 128 → get_or led b false ≡ true → pointer_fault g m q ≡ true
      fault_twice few e = fault_from (or_right _ _ (ap (leads_to q) (sym is) ∙ sym (passed.marks b (omega arith) few) ∙ e))

      -- it leads to a block of its own, which is now marked
      pub leads_once : b < 128 → marked_data g m b ≡ true → get_or led b false ≡ false → Passed (q + 1) (set led b true)
      leads_once few marked new = record {
        sound = lowest_miss (pointer_fault g m) q passed.sound (and_right _ _ (or_from _ _
            (not_from_true _ (ap (marked_data g m) (sym is) ∙ marked)) (ap (leads_to q) (sym is) ∙ sym (passed.marks b (omega arith) few) ∙ new)));
        long = length-set led b true ∙ passed.long;
        marks = λ k from below. elim (cases_eq k b) [
          | inl e ↦ ap (λ n. get_or (set led b true) n false) e ∙ get_or-set_same led b true false (omega (arith, passed.long))
              ∙ sym (leads_more k ∙ or_right (leads_to q k) _ (eq-eqb b k (sym e)))
          | inr e ↦ get_or-set_other led b k true false e ∙ passed.marks k from below
              ∙ sym (leads_more k ∙ ap (λ t. leads_to q k || t) (ne_eqb b k (λ f. e (sym f))) ∙ or_false (leads_to q k))
        ];
      }

  -- the first pointer at fault is the one that the verdict tells
  pub told : (q n : ℕ) (led : List Bool) → Passed q led → q < n → pointer_fault g m q ≡ true
      → Some (BadPointer (pointer_place q)) ≡ found BadPointer pointer_place (lowest n (pointer_fault g m))
  told q n led passed h fault = sym (ap (found BadPointer pointer_place) (lowest_hit (pointer_fault g m) n q passed.sound fault h))
