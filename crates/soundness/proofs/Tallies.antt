-- How many slots name each inode, counted in one pass over the entries.
use Rattle.std.proofs.Common.{◌≡◌, ℕ, zero, suc, ◌+◌, Bool, true, false, cond, not, ◌&&◌, ◌==◌, List, Some, None, Option, count_by, filter_map, sym, refl, ap, ◌∙◌, zero-add, add-zero, add-one, arith}
use Rattle.std.specs.List.{range_with_len, cons_option}
use Rattle.std.proofs.lemmas.List.Sums.{sum_by-cons}
use Rattle.finite.specs.Finite.{digit, count}
use Rattle.layout.specs.declared.geometry.Shape.{Shape}
use Rattle.layout.specs.Entries.{empty, target}
use Rattle.soundness.specs.Media.{Medium, slot, names}

module _ (g : Shape) (m : Medium) where
  -- the entry in slot s, unless it is empty
  abbrev pub held : ℕ → Option (List ℕ)
  held s = cond (empty (slot g m s)) None (Some (slot g m s))

  module _ (i : ℕ) where
    -- how many of these entries name inode i
    abbrev tally : List (List ℕ) → ℕ
    tally = count_by (λ e. target e == i)

    one_more : (b : Bool) (x : List ℕ) (rest : List (List ℕ)) → tally (cons_option (cond b None (Some x)) rest) ≡ digit (not b && target x == i) + tally rest
    one_more true x rest = sym (zero-add (tally rest))
    one_more false x rest = sum_by-cons (λ e. cond (target e == i) 1 0) x rest ∙ ap (λ d. d + tally rest) (ones (target x == i))
      where
        ones : (b : Bool) → cond b 1 0 ≡ digit b
        ones true = refl
        ones false = refl

    count_more : (a : ℕ) → count (a + 1) (names g m i) ≡ count a (names g m i) + digit (names g m i a)
    unfolding count
    count_more a = rw (add-one a) refl

    tallied_from : (a n : ℕ) → count a (names g m i) + tally (filter_map held (range_with_len a n)) ≡ count (a + n) (names g m i)
    tallied_from a zero = add-zero _ ∙ ap (λ k. count k (names g m i)) (sym (add-zero a))
    tallied_from a (suc n) =
        let rest = filter_map held (range_with_len (a + 1) n) in
        let first : tally (filter_map held (range_with_len a (suc n))) ≡ digit (names g m i a) + tally rest = one_more (empty (slot g m a)) (slot g m a) rest in
        let past : a + suc n ≡ a + 1 + n = omega arith in
        omega (arith, first, count_more a, tallied_from (a + 1) n, ap (λ k. count k (names g m i)) past)

    pub tallied : (n : ℕ) → tally (filter_map held (range_with_len 0 n)) ≡ count n (names g m i)
    unfolding count
    tallied n = sym (zero-add _) ∙ tallied_from 0 n ∙ ap (λ k. count k (names g m i)) (zero-add n)
