-- What the tests of the numbers below a bound decide, and one turn of a loop for each.
use Rattle.std.proofs.Common.{◌≡◌, ℕ, zero, suc, ◌+◌, ◌<◌, ◌≤◌, Bool, true, false, cond, ◌||◌, is_some, Some, None, Option, sym, refl, ap, ◌∙◌, inl, inr, not-suc-le-zero, add-zero, add-one, arith}
use Rattle.std.proofs.lemmas.Bool.{cases_eq, cases_Bool, both_ways, and_parts, and_from, or_cases, or_parts, or_from, or_left, or_right, true≢false}
use Rattle.finite.specs.Finite.{every, exists, digit, count, or_else, lowest}

module _ (p : ℕ → Bool) where
  -- every
  pub every_at : (n : ℕ) → every n p ≡ true → (k : ℕ) → k < n → p k ≡ true
  unfolding every
  every_at zero e k h = absurd (not-suc-le-zero h)
  every_at (suc n) e k h =
      let parts = and_parts (every n p) (p n) e in
      elim (cases_eq k n) [ inl q ↦ ap p q ∙ parts.1 | inr q ↦ every_at n parts.0 k (omega arith) ]

  pub every_from : (n : ℕ) → ((k : ℕ) → k < n → p k ≡ true) → every n p ≡ true
  unfolding every
  every_from zero f = refl
  every_from (suc n) f = and_from (every n p) (p n) (every_from n (λ k h. f k (omega arith))) (f n (omega arith))

  pub every_hit : (n : ℕ) → every n p ≡ true → p n ≡ true → every (n + 1) p ≡ true
  unfolding every
  every_hit n e h = rw add-one (and_from (every n p) (p n) e h)

  pub every_miss : (n k : ℕ) → p k ≡ false → k < n → every n p ≡ false
  every_miss n k e h = elim (cases_Bool (every n p)) [ inl t ↦ absurd (both_ways (p k) e (every_at n t k h)) | inr f ↦ f ]

  -- exists
  pub exists_at : (n : ℕ) → exists n p ≡ true → (k : ℕ) × (k < n) × (p k ≡ true)
  unfolding exists
  exists_at zero e = absurd (true≢false (sym e))
  exists_at (suc n) e =
      elim (or_cases (exists n p) (p n) e) [
        | inl q ↦ let found = exists_at n q in (found.0, omega (arith, found.1), found.2)
        | inr q ↦ (n, omega arith, q)
      ]

  pub exists_from : (n k : ℕ) → k < n → p k ≡ true → exists n p ≡ true
  unfolding exists
  exists_from zero k h e = absurd (not-suc-le-zero h)
  exists_from (suc n) k h e =
      elim (cases_eq k n) [
        | inl q ↦ or_right (exists n p) (p n) (ap p (sym q) ∙ e)
        | inr q ↦ or_left (exists n p) (p n) (exists_from n k (omega arith) e)
      ]

  pub exists_none : (n : ℕ) → exists n p ≡ false → (k : ℕ) → k < n → p k ≡ false
  unfolding exists
  exists_none zero e k h = absurd (not-suc-le-zero h)
  exists_none (suc n) e k h =
      let parts = or_parts (exists n p) (p n) e in
      elim (cases_eq k n) [ inl q ↦ ap p q ∙ parts.1 | inr q ↦ exists_none n parts.0 k (omega arith) ]

  pub none_exists : (n : ℕ) → ((k : ℕ) → k < n → p k ≡ false) → exists n p ≡ false
  unfolding exists
  none_exists zero f = refl
  none_exists (suc n) f = or_from (exists n p) (p n) (none_exists n (λ k h. f k (omega arith))) (f n (omega arith))

  pub exists_more : (n : ℕ) → exists (n + 1) p ≡ exists n p || p n
  unfolding exists
  exists_more n = rw add-one refl

  pub exists_miss : (n : ℕ) → exists n p ≡ false → p n ≡ false → exists (n + 1) p ≡ false
  exists_miss n e h = exists_more n ∙ or_from (exists n p) (p n) e h

  -- lowest
  pub lowest_none : (n : ℕ) → lowest n p ≡ None → (k : ℕ) → k < n → p k ≡ false
  unfolding lowest
  lowest_none zero e k h = absurd (not-suc-le-zero h)
  lowest_none (suc n) e k h =
      let parts = none_found (lowest n p) (p n) e in
      elim (cases_eq k n) [ inl q ↦ ap p q ∙ parts.1 | inr q ↦ lowest_none n parts.0 k (omega arith) ]
    where
      none_found : (o : Option ℕ) (b : Bool) → or_else o b n ≡ None → (o ≡ None) × (b ≡ false)
      none_found (Some j) b f = absurd (true≢false (ap is_some f))
      none_found None true f = absurd (true≢false (ap is_some f))
      none_found None false f = (refl, refl)

  pub none_lowest : (n : ℕ) → ((k : ℕ) → k < n → p k ≡ false) → lowest n p ≡ None
  unfolding lowest
  none_lowest zero f = refl
  none_lowest (suc n) f =
      ap (λ o. or_else o (p n) n) (none_lowest n (λ k h. f k (omega arith))) ∙ ap (λ b. cond b (Some n) None) (f n (omega arith))

  pub lowest_miss : (n : ℕ) → lowest n p ≡ None → p n ≡ false → lowest (n + 1) p ≡ None
  unfolding lowest
  lowest_miss n e h = rw add-one (ap (λ o. or_else o (p n) n) e ∙ ap (λ b. cond b (Some n) None) h)

  pub lowest_hit : (m n : ℕ) → lowest n p ≡ None → p n ≡ true → n < m → lowest m p ≡ Some n
  unfolding lowest
  lowest_hit zero n e h l = absurd (not-suc-le-zero l)
  lowest_hit (suc m) n e h l =
      elim (cases_eq n m) [
        | inl q ↦ (λ j. or_else (lowest (sym q j) p) (p (sym q j)) m) ∙ ap (λ o. or_else o (p n) m) e ∙ ap (λ b. cond b (Some m) None) h ∙ ap Some (sym q)
        | inr q ↦ ap (λ o. or_else o (p m) m) (lowest_hit m n e h (omega arith))
      ]

  pub lowest_at : (n k : ℕ) → lowest n p ≡ Some k → (k < n) × (p k ≡ true)
  unfolding lowest
  lowest_at zero k e = absurd (true≢false (sym (ap is_some e)))
  lowest_at (suc n) k e = found (lowest n p) (lowest_at n k) (p n) refl e
    where
      found : (o : Option ℕ) → (o ≡ Some k → (k < n) × (p k ≡ true)) → (b : Bool) → p n ≡ b → or_else o b n ≡ Some k → (k < suc n) × (p k ≡ true)
      found (Some j) earlier b r f = (omega (arith, (earlier f).0), (earlier f).1)
      found None earlier true r f = let same : n ≡ k = cc in (omega arith, ap p (sym same) ∙ r)
      found None earlier false r f = absurd (true≢false (sym (ap is_some f)))

  -- count
  pub count_hit : (n : ℕ) → p n ≡ true → count (n + 1) p ≡ count n p + 1
  unfolding count
  count_hit n e = rw (add-one n) (ap (λ b. count n p + digit b) e)

  pub count_miss : (n : ℕ) → p n ≡ false → count (n + 1) p ≡ count n p
  unfolding count
  count_miss n e = rw (add-one n) (ap (λ b. count n p + digit b) e ∙ add-zero (count n p))

  pub count_le : (n : ℕ) → count n p ≤ n
  unfolding count
  count_le zero = omega arith
  count_le (suc n) = let h = digit-le (p n) in let k = count_le n in omega arith
    where
      digit-le : (b : Bool) → digit b ≤ 1
      digit-le true = omega arith
      digit-le false = omega arith

  pub count_none : (n : ℕ) → ((k : ℕ) → k < n → p k ≡ false) → count n p ≡ 0
  unfolding count
  count_none zero f = refl
  count_none (suc n) f = (λ j. count_none n (λ k h. f k (omega arith)) j + digit (f n (omega arith) j))

-- tests that agree below n
module _ (p q : ℕ → Bool) where
  pub lowest_same : (n : ℕ) → ((k : ℕ) → k < n → p k ≡ q k) → lowest n p ≡ lowest n q
  unfolding lowest
  lowest_same zero f = refl
  lowest_same (suc n) f = (λ j. or_else (lowest_same n (λ k h. f k (omega arith)) j) (f n (omega arith) j) n)

  pub count_same : (n : ℕ) → ((k : ℕ) → k < n → p k ≡ q k) → count n p ≡ count n q
  unfolding count
  count_same zero f = refl
  count_same (suc n) f = (λ j. count_same n (λ k h. f k (omega arith)) j + digit (f n (omega arith) j))
