-- Which write a device with four channels takes.
use Rattle.std.proofs.Common.{◌≡◌, ℕ, zero, suc, ◌+◌, ◌%◌, ◌<◌, Bool, true, false, cond, eqb, List, [], ◌∷◌, length, Some, None, Option, MatchOption, zero-add, sym, refl, ap, ◌∙◌, arith}
use Rattle.std.specs.Option.{option_map}
use Rattle.std.specs.List.{position, position_from}
use Rattle.std.proofs.lemmas.Iterator.Adapters.{position_from-zero}
use Rattle.std.proofs.lemmas.List.Quantifiers.{position-Some}
use Rattle.std.proofs.lemmas.Bool.{eqb-false}
use Rattle.device.specs.declared.types.Write.{Write}
use Rattle.bottoms.proofs.Found.{First}
use Rattle.bottoms.specs.Channels.{oldest, first_of, picked_among}

-- places counted from i + 1 on are one more than those from i on
mapped_suc : (i : ℕ) (o : Option ℕ) → option_map (λ k. i + k) (option_map suc o) ≡ option_map (λ k. (i + 1) + k) o
mapped_suc i None = refl
mapped_suc i (Some k) = let e : i + suc k ≡ (i + 1) + k = omega arith in ap Some e

-- places counted from 0 on are as they are
mapped_zero : (o : Option ℕ) → option_map (λ k. 0 + k) o ≡ o
mapped_zero None = refl
mapped_zero (Some k) = ap Some (zero-add k)

-- a write is taken where it is on the channel, and elsewhere the search goes on
oldest_step : (t : Bool) (i : ℕ) (found : Option ℕ) (o : Option ℕ) → found ≡ option_map (λ k. (i + 1) + k) o
    → cond t (Some i) found ≡ option_map (λ k. i + k) (cond t (Some 0) (option_map suc o))
oldest_step true i found o e = let z : i ≡ i + 0 = omega arith in ap Some z
oldest_step false i found o e = e ∙ sym (mapped_suc i o)

-- a search from place i on
oldest_from : (c i : ℕ) (ws : List Write) → position_from (λ w. eqb (w.block % 4) c) i ws ≡ option_map (λ k. i + k) (oldest c ws)
oldest_from c i [] = refl
oldest_from c i (w ∷ ws) = oldest_step (eqb (w.block % 4) c) i _ (oldest c ws) (oldest_from c (i + 1) ws)

-- the oldest write on a channel is the first that is on it
pub oldest_is : (c : ℕ) (ws : List Write) → position (λ w. eqb (w.block % 4) c) ws ≡ oldest c ws
oldest_is c ws = position_from-zero (λ w. eqb (w.block % 4) c) ws ∙ oldest_from c 0 ws ∙ mapped_zero (oldest c ws)

-- the oldest write on a channel stands in the list
oldest_within : (c : ℕ) (ws : List Write) (i : ℕ) → oldest c ws ≡ Some i → i < length ws
oldest_within c [] i e = absurd cc
oldest_within c (w ∷ ws) i e = (position-Some (λ v. eqb (v.block % 4) c) (w ∷ ws) i w (oldest_is c (w ∷ ws) ∙ e)).0

-- nothing is found only where the first test fails
cond_none : (t : Bool) (o : Option ℕ) → cond t (Some 0) o ≡ None → t ≡ false
cond_none true o e = absurd cc
cond_none false o e = refl

-- where channel c has no write, the first is not on it
not_on : (c : ℕ) (w : Write) (ws : List Write) → oldest c (w ∷ ws) ≡ None → w.block % 4 ≡ c → ⊥
not_on c w ws e = eqb-false (w.block % 4) c (cond_none _ (option_map suc (oldest c ws)) e)

-- where none of four channels in a row has a write, none waits
none_left : (ws : List Write) (c : ℕ) → ((k : ℕ) → k < 4 → oldest ((c + k) % 4) ws ≡ None) → ws ≡ []
none_left [] c e = refl
none_left (w ∷ ws) c e =
    let h0 = not_on ((c + 0) % 4) w ws (e 0 (omega arith)) in
    let h1 = not_on ((c + 1) % 4) w ws (e 1 (omega arith)) in
    let h2 = not_on ((c + 2) % 4) w ws (e 2 (omega arith)) in
    let h3 = not_on ((c + 3) % 4) w ws (e 3 (omega arith)) in
    absurd (omega (arith, h0, h1, h2, h3))

-- a write stands at the place that is picked
pub picked_found : (ws : List Write) (c : ℕ) (r : Option ℕ) → First 4 (λ k. oldest ((c + k) % 4) ws) r → MatchOption r (ws ≡ []) (λ i. i < length ws)
picked_found ws c None e = none_left ws c e
picked_found ws c (Some i) e = oldest_within ((c + e.0) % 4) ws i e.2

-- channels counted from c + 1 on are one further than those from c on
channel_more : (c k : ℕ) (ws : List Write) → oldest (((c + 1) + k) % 4) ws ≡ oldest ((c + suc k) % 4) ws
channel_more c k ws = let z : (c + 1) + k ≡ c + suc k = omega arith in ap (λ j. oldest (j % 4) ws) z

-- and those from c on begin with c
channel_first : (c : ℕ) (ws : List Write) → oldest (c % 4) ws ≡ oldest ((c + 0) % 4) ws
channel_first c ws = let z : c ≡ c + 0 = omega arith in ap (λ j. oldest (j % 4) ws) z

-- the place that is picked is that of the first channel that has a write
pub picked_first : (n : ℕ) (ws : List Write) (c : ℕ) (r : Option ℕ) → First n (λ k. oldest ((c + k) % 4) ws) r → r ≡ picked_among n ws c
picked_first zero ws c None e = refl
picked_first zero ws c (Some y) e = absurd (omega (arith, e.1))
picked_first (suc n) ws c None e =
    picked_first n ws (c + 1) None (λ k l. channel_more c k ws ∙ e (suc k) (omega arith))
    ∙ ap (λ x. first_of x (picked_among n ws (c + 1))) (sym (channel_first c ws ∙ e 0 (omega arith)))
picked_first (suc n) ws c (Some y) (zero, l, is, before) = ap (λ x. first_of x (picked_among n ws (c + 1))) (sym (channel_first c ws ∙ is))
picked_first (suc n) ws c (Some y) (suc i, l, is, before) =
    picked_first n ws (c + 1) (Some y) (i, omega arith, channel_more c i ws ∙ is, λ k m. channel_more c k ws ∙ before (suc k) (omega arith))
    ∙ ap (λ x. first_of x (picked_among n ws (c + 1))) (sym (channel_first c ws ∙ before 0 (omega arith)))
