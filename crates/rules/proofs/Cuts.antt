-- Standing media are exactly what power cuts leave.
use Rattle.std.proofs.Common.{◌≡◌, ℕ, ◌+◌, ◌*◌, ◌/◌, ◌%◌, ◌<◌, Bool, true, false, cond, eqb, ◌≢◌, ◌⊎◌, List, [], ◌∷◌, length, get_or, set, unwrap_or, sym, refl, ap, ◌∙◌, inl, inr, arith, get_or-set_other, get_or-set_same, ext_get_or}
use Rattle.std.proofs.lemmas.Bool.{cases_eq}
use Rattle.std.proofs.lemmas.List.{length-set}
use Rattle.blocks.specs.Bytes.{Block}
use Rattle.soundness.specs.Media.{Medium, block}
use Rattle.device.specs.declared.types.Write.{Write}
use Rattle.device.specs.Meaning.{apart, inside, landed}
use Rattle.device.specs.Cuts.{cut_medium}
use Rattle.device.proofs.Waits.{inside_first, inside_right}
use Rattle.rules.specs.Standing.{under_way, newest}
use Rattle.rules.specs.Landings.{LandingsAgree}
use Rattle.rules.proofs.Landings.{apart_rest, under_way_first, under_way_rest, none_later, told, tells}

-- c is what block b holds on a medium, or what it holds once its write among these has landed
abbrev Either : List Write → Medium → ℕ → Block → Type 0
Either ws m b c = (c ≡ block m b) ⊎ (c ≡ unwrap_or (under_way ws b) (block m b))

-- the medium on which the first of the writes has landed, or not
abbrev stepped : Bool → Medium → Write → Medium
stepped t m w = cond t (landed m w) m

landed_here : (m : Medium) (w : Write) (b : ℕ) → w.block ≡ b → b < length m → block (landed m w) b ≡ w.bytes
landed_here m w b q h = ap (λ x. get_or (set m x w.bytes) b []) q ∙ get_or-set_same m b w.bytes [] h

landed_other : (m : Medium) (w : Write) (b : ℕ) → w.block ≢ b → block (landed m w) b ≡ block m b
landed_other m w b n = get_or-set_other m w.block b w.bytes [] (λ q. n (sym q))

length-stepped : (t : Bool) (m : Medium) (w : Write) → length (stepped t m w) ≡ length m
length-stepped true m w = length-set m w.block w.bytes
length-stepped false m w = refl

module _ (w : Write) (ws : List Write) (a : apart (w ∷ ws) ≡ true) (m : Medium) (b : ℕ) (h : b < length m) (c : Block) where
  -- what the writes leave after the first one, they leave with it
  here : w.block ≡ b → (t : Bool) → Either ws (stepped t m w) b c → Either (w ∷ ws) m b c
  here q true e =
      let none = none_later w ws b a q in
      let now : c ≡ w.bytes = elim e [ inl f ↦ f ∙ landed_here m w b q h | inr f ↦ f ∙ ap (λ o. unwrap_or o (block (landed m w) b)) none ∙ landed_here m w b q h ] in
      inr (now ∙ sym (ap (λ o. unwrap_or o (block m b)) (under_way_first w ws b q)))
  here q false e =
      let none = none_later w ws b a q in
      inl (elim e [ inl f ↦ f | inr f ↦ f ∙ ap (λ o. unwrap_or o (block m b)) none ])

  elsewhere : w.block ≢ b → (t : Bool) → Either ws (stepped t m w) b c → Either (w ∷ ws) m b c
  elsewhere n true e =
      let other = landed_other m w b n in
      elim e [
        | inl f ↦ inl (f ∙ other)
        | inr f ↦ inr (f ∙ (λ j. unwrap_or (sym (under_way_rest w ws b n) j) (other j)))
      ]
  elsewhere n false e = elim e [ inl f ↦ inl f | inr f ↦ inr (f ∙ ap (λ o. unwrap_or o (block m b)) (sym (under_way_rest w ws b n))) ]

  with_first : (t : Bool) → Either ws (stepped t m w) b c → Either (w ∷ ws) m b c
  with_first t e = elim (cases_eq w.block b) [ inl q ↦ here q t e | inr n ↦ elsewhere n t e ]

cut_at : (ws : List Write) (mask : ℕ) (m : Medium) (b : ℕ) → apart ws ≡ true → b < length m → Either ws m b (block (cut_medium mask ws m) b)
cut_at [] mask m b a h = inl refl
cut_at (w ∷ ws) mask m b a h =
    let t = eqb (mask % 2) 1 in
    with_first w ws a m b h _ t (cut_at ws (mask / 2) (stepped t m w) b (apart_rest w ws a) (omega (arith, length-stepped t m w)))

length_cut : (ws : List Write) (mask : ℕ) (m : Medium) → length (cut_medium mask ws m) ≡ length m
length_cut [] mask m = refl
length_cut (w ∷ ws) mask m = length_cut ws (mask / 2) _ ∙ length-stepped (eqb (mask % 2) 1) m w

-- the mask with one more bit below
cut_with : (t : Bool) (w : Write) (ws : List Write) (mask : ℕ) (m : Medium)
    → (more : ℕ) × (cut_medium mask ws (stepped t m w) ≡ cut_medium more (w ∷ ws) m)
cut_with true w ws mask m =
    let half : (2 * mask + 1) / 2 ≡ mask = omega arith in
    let odd : (2 * mask + 1) % 2 ≡ 1 = omega arith in
    (2 * mask + 1, λ j. cut_medium (sym half j) ws (stepped (eqb (sym odd j) 1) m w))
cut_with false w ws mask m =
    let half : (2 * mask) / 2 ≡ mask = omega arith in
    let even : (2 * mask) % 2 ≡ 0 = omega arith in
    (2 * mask, λ j. cut_medium (sym half j) ws (stepped (eqb (sym even j) 1) m w))

-- whether the first write has landed on a medium that has either copy of each block
module _ (w : Write) (ws : List Write) (a : apart (w ∷ ws) ≡ true) (m x : Medium) (h : w.block < length m)
    (each : (b : ℕ) → b < length m → Either (w ∷ ws) m b (block x b)) where
  -- its block tells
  first_bit : (t : Bool) × (block x w.block ≡ block (stepped t m w) w.block)
  first_bit = elim (each w.block h) [
    | inl e ↦ (false, e)
    | inr e ↦ (true, e ∙ ap (λ o. unwrap_or o (block m w.block)) (under_way_first w ws w.block refl) ∙ sym (landed_here m w w.block refl h))
  ]

  stepped_other : (t : Bool) (b : ℕ) → w.block ≢ b → block (stepped t m w) b ≡ block m b
  stepped_other true b n = landed_other m w b n
  stepped_other false b n = refl

  -- the other writes account for the rest
  rest : (t : Bool) → block x w.block ≡ block (stepped t m w) w.block → (b : ℕ) → b < length m → Either ws (stepped t m w) b (block x b)
  rest t e b k = elim (cases_eq w.block b) [
    | inl q ↦ inl (ap (block x) (sym q) ∙ e ∙ ap (block (stepped t m w)) q)
    | inr n ↦ let other = stepped_other t b n in elim (each b k) [
      | inl f ↦ inl (f ∙ sym other)
      | inr f ↦ inr (f ∙ (λ j. unwrap_or (under_way_rest w ws b n j) (sym other j)))
    ]
  ]

-- some mask leaves it
some_cut : (ws : List Write) (m x : Medium) → apart ws ≡ true → inside (length m) ws ≡ true → length x ≡ length m
    → ((b : ℕ) → b < length m → Either ws m b (block x b)) → (mask : ℕ) × (x ≡ cut_medium mask ws m)
unfolding under_way
some_cut [] m x a i l each = (0, ext_get_or [] x m l (λ b h. elim (each b (omega arith)) [ inl e ↦ e | inr e ↦ e ]))
some_cut (w ∷ ws) m x a i l each =
    let bit = first_bit w ws a m x (inside_first (length m) w ws i) each in
    let long = length-stepped bit.0 m w in
    let later = some_cut ws (stepped bit.0 m w) x (apart_rest w ws a) (ap (λ n. inside n ws) long ∙ inside_right (length m) (w ∷ []) ws i) (l ∙ sym long)
    (λ b h. rest w ws a m x (inside_first (length m) w ws i) each bit.0 bit.1 b (omega arith)) in
    let more = cut_with bit.0 w ws later.0 m in
    (more.0, later.1 ∙ more.1)

pub landings_agree : LandingsAgree
unfolding newest
landings_agree d kept =
    let whole : length d.medium ≡ d.size = kept.long in
    record {
      left = λ mask. record {
        long = length_cut d.waiting mask d.medium ∙ whole;
        copy = λ b h. cut_at d.waiting mask d.medium b kept.distinct (omega arith);
      };
      leaves = λ m s. some_cut d.waiting d.medium m kept.distinct (ap (λ n. inside n d.waiting) whole ∙ kept.within) (s.long ∙ sym whole)
          (λ b h. s.copy b (omega arith));
      told = told d kept;
      tells = tells d kept;
    }
