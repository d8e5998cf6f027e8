-- Lists of waiting writes: what stays true when one joins, leaves, or moves from one list to the next.
use Rattle.std.proofs.Common.{◌≡◌, ℕ, zero, suc, ◌<◌, Bool, true, false, not, ◌||◌, eqb, ltb, List, [], ◌∷◌, ◌++◌, length, get_or, sym, refl, ap, ◌∙◌, arith}
use Rattle.std.specs.List.{list_any, remove}
use Rattle.std.proofs.lemmas.Bool.{and_parts, and_from, or_parts, or_from, or_left, or_right, not-true, not_from_false, ltb-true, lt-ltb, eq-eqb, both_ways}
use Rattle.device.specs.declared.types.Write.{Write}
use Rattle.device.specs.Meaning.{waits, apart, inside}

or_assoc : (a b c : Bool) → ((a || b) || c) ≡ (a || (b || c))
or_assoc true b c = refl
or_assoc false b c = refl

eqb_flip : (a b : ℕ) → eqb a b ≡ false → eqb b a ≡ false
eqb_flip a b h = grind (arith)

-- a write among two lists is among one of them
pub waits-append : (a b : List Write) (k : ℕ) → waits (a ++ b) k ≡ (waits a k || waits b k)
waits-append [] b k = refl
waits-append (w ∷ a) b k =
    ap (λ t. eqb w.block k || t) (waits-append a b k) ∙ sym (or_assoc (eqb w.block k) (waits a k) (waits b k))

pub waits_left : (a b : List Write) (k : ℕ) → waits (a ++ b) k ≡ false → waits a k ≡ false
waits_left a b k h = (or_parts _ _ (sym (waits-append a b k) ∙ h)).0

pub waits_right : (a b : List Write) (k : ℕ) → waits (a ++ b) k ≡ false → waits b k ≡ false
waits_right a b k h = (or_parts _ _ (sym (waits-append a b k) ∙ h)).1

pub waits_both : (a b : List Write) (k : ℕ) → waits a k ≡ false → waits b k ≡ false → waits (a ++ b) k ≡ false
waits_both a b k h l = waits-append a b k ∙ or_from _ _ h l

pub waits_removed : (ws : List Write) (i k : ℕ) → waits ws k ≡ false → waits (remove ws i) k ≡ false
waits_removed [] zero k h = refl
waits_removed [] (suc i) k h = refl
waits_removed (w ∷ ws) zero k h = (or_parts (eqb w.block k) _ h).1
waits_removed (w ∷ ws) (suc i) k h =
    let parts = or_parts (eqb w.block k) _ h in
    or_from (eqb w.block k) _ parts.0 (waits_removed ws i k parts.1)

-- a search of the whole list finds what waits
pub waits_any : (ws : List Write) (b : ℕ) → list_any (λ w. eqb w.block b) ws ≡ waits ws b
waits_any [] b = refl
waits_any (w ∷ ws) b = ap (λ t. eqb w.block b || t) (waits_any ws b)

pub waits_at : (ws : List Write) (i : ℕ) (d : Write) → i < length ws → waits ws (get_or ws i d).block ≡ true
waits_at [] i d h = absurd (omega arith)
waits_at (w ∷ ws) zero d h = or_left _ _ (eq-eqb w.block w.block refl)
waits_at (w ∷ ws) (suc i) d h = or_right _ _ (waits_at ws i d (omega arith))

-- writes of distinct blocks
pub apart_removed : (ws : List Write) (i : ℕ) → apart ws ≡ true → apart (remove ws i) ≡ true
apart_removed [] zero h = refl
apart_removed [] (suc i) h = refl
apart_removed (w ∷ ws) zero h = (and_parts (not (waits ws w.block)) _ h).1
apart_removed (w ∷ ws) (suc i) h =
    let parts = and_parts (not (waits ws w.block)) _ h in
    and_from _ _ (not_from_false _ (waits_removed ws i w.block (not-true _ parts.0))) (apart_removed ws i parts.1)

pub apart_push : (ws : List Write) (w : Write) → apart ws ≡ true → waits ws w.block ≡ false → apart (ws ++ w ∷ []) ≡ true
apart_push [] w h n = refl
apart_push (v ∷ ws) w h n =
    let parts = and_parts (not (waits ws v.block)) _ h in
    let others = or_parts (eqb v.block w.block) _ n in
    let last = or_from _ false (eqb_flip v.block w.block others.0) refl in
    and_from _ _ (not_from_false _ (waits_both ws (w ∷ []) v.block (not-true _ parts.0) last)) (apart_push ws w parts.1 others.1)

-- a write that follows a list is not among it
pub apart_middle : (a : List Write) (w : Write) (b : List Write) → apart (a ++ w ∷ b) ≡ true → waits a w.block ≡ false
apart_middle [] w b h = refl
apart_middle (v ∷ a) w b h =
    let parts = and_parts (not (waits (a ++ w ∷ b) v.block)) _ h in
    let others = or_parts (eqb w.block v.block) _ (waits_right a (w ∷ b) v.block (not-true _ parts.0)) in
    or_from _ _ (eqb_flip w.block v.block others.0) (apart_middle a w b parts.1)

pub apart_left : (a b : List Write) → apart (a ++ b) ≡ true → apart a ≡ true
apart_left [] b h = refl
apart_left (w ∷ a) b h =
    let parts = and_parts (not (waits (a ++ b) w.block)) _ h in
    and_from _ _ (not_from_false _ (waits_left a b w.block (not-true _ parts.0))) (apart_left a b parts.1)

-- a block waits in one place at most
pub same_place : (ws : List Write) (i j : ℕ) (d : Write) → apart ws ≡ true → i < length ws → j < length ws
    → (get_or ws i d).block ≡ (get_or ws j d).block → i ≡ j
same_place [] i j d a h l e = absurd (omega arith)
same_place (w ∷ ws) zero zero d a h l e = refl
same_place (w ∷ ws) zero (suc j) d a h l e =
    let parts = and_parts (not (waits ws w.block)) _ a in
    absurd (both_ways _ (not-true _ parts.0) (ap (waits ws) e ∙ waits_at ws j d (omega arith)))
same_place (w ∷ ws) (suc i) zero d a h l e =
    let parts = and_parts (not (waits ws w.block)) _ a in
    absurd (both_ways _ (not-true _ parts.0) (ap (waits ws) (sym e) ∙ waits_at ws i d (omega arith)))
same_place (w ∷ ws) (suc i) (suc j) d a h l e =
    ap suc (same_place ws i j d (and_parts (not (waits ws w.block)) _ a).1 (omega arith) (omega arith) e)

-- writes of blocks below n
pub inside_first : (n : ℕ) (w : Write) (ws : List Write) → inside n (w ∷ ws) ≡ true → w.block < n
inside_first n w ws h = ltb-true w.block n (and_parts (ltb w.block n) _ h).0

pub inside_push : (n : ℕ) (ws : List Write) (w : Write) → inside n ws ≡ true → w.block < n → inside n (ws ++ w ∷ []) ≡ true
inside_push n [] w h l = and_from _ _ (lt-ltb w.block n l) refl
inside_push n (v ∷ ws) w h l =
    let parts = and_parts (ltb v.block n) _ h in
    and_from _ _ parts.0 (inside_push n ws w parts.1 l)

pub inside_removed : (n : ℕ) (ws : List Write) (i : ℕ) → inside n ws ≡ true → inside n (remove ws i) ≡ true
inside_removed n [] zero h = refl
inside_removed n [] (suc i) h = refl
inside_removed n (w ∷ ws) zero h = (and_parts (ltb w.block n) _ h).1
inside_removed n (w ∷ ws) (suc i) h =
    let parts = and_parts (ltb w.block n) _ h in
    and_from _ _ parts.0 (inside_removed n ws i parts.1)

pub inside_right : (n : ℕ) (a b : List Write) → inside n (a ++ b) ≡ true → inside n b ≡ true
inside_right n [] b h = h
inside_right n (w ∷ a) b h = inside_right n a b (and_parts (ltb w.block n) _ h).1

pub inside_at : (n : ℕ) (ws : List Write) (i : ℕ) (d : Write) → inside n ws ≡ true → i < length ws → (get_or ws i d).block < n
inside_at n [] i d h l = absurd (omega arith)
inside_at n (w ∷ ws) zero d h l = inside_first n w ws h
inside_at n (w ∷ ws) (suc i) d h l = inside_at n ws i d (and_parts (ltb w.block n) _ h).1 (omega arith)

-- a write that leaves the first of two lists
pub removed_front : (a b : List Write) (i : ℕ) → i < length a → remove (a ++ b) i ≡ remove a i ++ b
removed_front [] b i h = absurd (omega arith)
removed_front (w ∷ a) b zero h = refl
removed_front (w ∷ a) b (suc i) h = ap (λ r. w ∷ r) (removed_front a b i (omega arith))
