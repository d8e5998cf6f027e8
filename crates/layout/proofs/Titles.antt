-- A kept name told by its tests and in plain words.
use Rattle.std.proofs.Common.{◌≡◌, ℕ, zero, suc, ◌+◌, ◌-◌, ◌<◌, ◌≤◌, true, not, ◌&&◌, eqb, leb, ◌⊎◌, List, ◌++◌, length, get_or, drop, replicate, sym, refl, ap, ◌∙◌, subst, inl, inr, add-one, arith}
use Rattle.std.proofs.lemmas.Bool.{cases_lt, cases_eq, and_parts, and_from, or_cases, or_left, or_right, not-true, not_from_false, leb-true, eqb-true, eqb-false, eq-eqb, ne_eqb}
use Rattle.std.proofs.lemmas.List.{length-append, length-drop, get_or_append_left, get_or-append_right, get_or-drop, get_or-replicate, get_or_past}
use Rattle.finite.specs.Finite.{every, table}
use Rattle.layout.specs.Names.{printable, proper, padded, goes_on, well_formed, Named}
use Rattle.finite.proofs.Decided.{every_at, every_from}
use Rattle.finite.proofs.Tables.{get_or-table, table_is}

-- a byte of a name is not the zero byte
pub printable_some : (c : ℕ) → printable c ≡ true → c ≡ 0 → ⊥
printable_some c e z = let h = leb-true 33 c (and_parts (leb 33 c) (leb c 126) e).0 in omega arith

one_more : (P : ℕ → Type 0) (n : ℕ) → ((k : ℕ) → k < n → P k) → P n → (k : ℕ) → k < suc n → P k
one_more P n f p k h = elim (cases_eq k n) [ inl q ↦ subst P (sym q) p | inr q ↦ f k (omega arith) ]

module _ (title : List ℕ) where
  pub named_well_formed : Named title → well_formed title ≡ true
  named_well_formed n = and_from (printable (get_or title 0 0)) (every 13 (goes_on title)) (n.bytes 0 n.some) (every_from (goes_on title) 13 goes)
    where
      goes : (k : ℕ) → k < 13 → goes_on title k ≡ true
      goes k h =
          let here = get_or title k 0 in
          let next = get_or title (k + 1) 0 in
          elim (cases_lt (k + 1) n.size) [
            | inl l ↦ or_right (eqb next 0) (printable next && not (eqb here 0))
                (and_from (printable next) (not (eqb here 0)) (n.bytes (k + 1) l)
                (not_from_false (eqb here 0) (ne_eqb here 0 (printable_some here (n.bytes k (omega arith))))))
            | inr l ↦ or_left (eqb next 0) (printable next && not (eqb here 0)) (eq-eqb next 0 (n.filled (k + 1) l (omega arith)))
          ]

  -- of the first n bytes: all are a name's, or they are a name that ended, and zeros
  abbrev Begun : ℕ → Type 0
  Begun n = (k : ℕ) → k < n → printable (get_or title k 0) ≡ true

  abbrev Ended : ℕ → Type 0
  Ended n = (size : ℕ) × (1 ≤ size) × (size < n) × Begun size × ((k : ℕ) → k < n → size ≤ k → get_or title k 0 ≡ 0)

  pub well_formed_named : well_formed title ≡ true → Named title
  well_formed_named e = elim (read 13 (omega arith)) [
    | inl f ↦ record { size = 14; some = omega arith; few = omega arith; bytes = f; filled = λ k l h. absurd (omega arith) }
    | inr f ↦ record { size = f.0; some = f.1; few = omega (arith, f.2); bytes = f.3; filled = λ k l h. f.4 k h l }
  ]
    where
      parts : (printable (get_or title 0 0) ≡ true) × (every 13 (goes_on title) ≡ true)
      parts = and_parts (printable (get_or title 0 0)) (every 13 (goes_on title)) e

      -- the byte after byte n, read off the test of n
      next : (n : ℕ) → n < 13 → (get_or title (suc n) 0 ≡ 0) ⊎ ((printable (get_or title (suc n) 0) ≡ true) × (get_or title n 0 ≡ 0 → ⊥))
      next n h =
          let here = get_or title n 0 in
          let after = get_or title (n + 1) 0 in
          rw (sym (add-one n)) (elim (or_cases (eqb after 0) (printable after && not (eqb here 0)) (every_at (goes_on title) 13 parts.1 n h)) [
            | inl z ↦ inl (eqb-true after 0 z)
            | inr p ↦ let both = and_parts (printable after) (not (eqb here 0)) p in
                inr (both.0, eqb-false here 0 (not-true (eqb here 0) both.1))
          ])

      read : (n : ℕ) → n ≤ 13 → Begun (suc n) ⊎ Ended (suc n)
      read zero h = inl (λ k l. ap (λ (x : ℕ). printable (get_or title x 0)) (omega arith) ∙ parts.0)
      read (suc n) h = elim (next n (omega arith)) [
        | inl z ↦ elim (read n (omega arith)) [
          | inl f ↦ inr (suc n, omega arith, omega arith, f, λ k l r. ap (λ (x : ℕ). get_or title x 0) (omega arith) ∙ z)
          | inr f ↦ inr (f.0, f.1, omega (arith, f.2), f.3, one_more (λ k. f.0 ≤ k → get_or title k 0 ≡ 0) (suc n) f.4 (λ _. z))
        ]
        | inr p ↦ elim (read n (omega arith)) [
          | inl f ↦ inl (one_more (λ k. printable (get_or title k 0) ≡ true) (suc n) f p.0)
          | inr f ↦ absurd (p.1 (f.4 n (omega arith) (omega (arith, f.2))))
        ]
      ]

-- a name that a host may give is well formed as it is kept
pub proper_well_formed : (text : List ℕ) → proper text ≡ true → well_formed (padded text) ≡ true
unfolding padded
proper_well_formed text e = named_well_formed (padded text) (record {
  size = length text;
  some = long.0;
  few = long.1;
  bytes = λ k h. ap printable (kept k (omega (arith, long.1))) ∙ every_at (λ k. printable (get_or text k 0)) (length text) parts.1 k h;
  filled = λ k l h. kept k h ∙ get_or_past text k 0 l;
})
  where
    parts : ((leb 1 (length text) && leb (length text) 14) ≡ true) × (every (length text) (λ k. printable (get_or text k 0)) ≡ true)
    parts = and_parts _ _ e

    long : (1 ≤ length text) × (length text ≤ 14)
    long =
        let both = and_parts (leb 1 (length text)) (leb (length text) 14) parts.0 in
        (leb-true 1 (length text) both.0, leb-true (length text) 14 both.1)

    -- a kept byte is the text's
    kept : (k : ℕ) → k < 14 → get_or (table 14 (λ k. get_or text k 0)) k 0 ≡ get_or text k 0
    kept k h = get_or-table 14 (λ k. get_or text k 0) k 0 h

pub proper_short : (text : List ℕ) → proper text ≡ true → length text ≤ 14
proper_short text e =
    leb-true (length text) 14 (and_parts (leb 1 (length text)) (leb (length text) 14) (and_parts _ _ e).0).1

-- a text, and zeros up to 14 bytes
pub filled_up : (text : List ℕ) → length text ≤ 14 → text ++ drop (length text) (replicate 14 0) ≡ padded text
unfolding padded
filled_up text h = table_is 14 (λ k. get_or text k 0) _ 0
    (simp (length-append, length-drop) (omega arith))
    (λ k l. elim (cases_lt k (length text)) [
      | inl i ↦ get_or_append_left text _ 0 k i
      | inr i ↦ get_or-append_right text _ (length text) k 0 refl i ∙ get_or-drop (length text) (replicate 14 0) (k - length text) 0
          ∙ get_or-replicate 14 (length text + (k - length text)) 0 0 (omega arith) ∙ sym (get_or_past text k 0 i)
    ])
