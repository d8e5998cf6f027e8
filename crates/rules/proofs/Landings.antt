-- Landings, by the device's list of waiting writes.
use Rattle.std.proofs.Common.{◌≡◌, ℕ, zero, suc, ◌<◌, ◌≤◌, true, false, not, eqb, ◌≢◌, List, [], ◌∷◌, length, get_or, set, Some, None, unwrap_or, sym, refl, ap, ◌∙◌, subst, inl, inr, arith}
use Rattle.std.specs.List.{remove}
use Rattle.std.proofs.lemmas.Bool.{and_parts, or_cases, or_parts, not-true, both_ways, true≢false, eq-eqb, ne_eqb, eqb-true, cond-true, cond-false, cond_both}
use Rattle.std.proofs.lemmas.List.{length-set}
use Rattle.blocks.specs.Bytes.{Block}
use Rattle.device.specs.declared.types.Write.{Write}
use Rattle.device.specs.Meaning.{Meaning, Kept, Lands, waits, apart, inside, landed}
use Rattle.device.proofs.Waits.{waits_at, apart_removed, inside_removed}
use Rattle.rules.specs.Standing.{under_way, newest, confirmed}
use Rattle.rules.specs.Changes.{without, landing}
use Rattle.rules.proofs.Written.{after_set}

-- the first write of a list and the others are of different blocks
pub apart_first : (w : Write) (ws : List Write) (b : ℕ) → apart (w ∷ ws) ≡ true → waits ws b ≡ true → w.block ≢ b
apart_first w ws b a h q = both_ways (waits ws b) (ap (waits ws) (sym q) ∙ not-true _ (and_parts (not (waits ws w.block)) _ a).0) h

pub apart_rest : (w : Write) (ws : List Write) → apart (w ∷ ws) ≡ true → apart ws ≡ true
apart_rest w ws a = (and_parts (not (waits ws w.block)) _ a).1

-- the bytes of the only write of a block
pub under_way_first : (w : Write) (ws : List Write) (b : ℕ) → w.block ≡ b → under_way (w ∷ ws) b ≡ Some w.bytes
unfolding under_way
under_way_first w ws b q = cond-true (eqb w.block b) _ _ (eq-eqb w.block b q)

pub under_way_rest : (w : Write) (ws : List Write) (b : ℕ) → w.block ≢ b → under_way (w ∷ ws) b ≡ under_way ws b
unfolding under_way
under_way_rest w ws b n = cond-false (eqb w.block b) _ _ (ne_eqb w.block b n)

without_first : (w : Write) (ws : List Write) (b : ℕ) → w.block ≡ b → without (w ∷ ws) b ≡ ws
unfolding without
without_first w ws b q = cond-true (eqb w.block b) _ _ (eq-eqb w.block b q)

without_rest : (w : Write) (ws : List Write) (b : ℕ) → w.block ≢ b → without (w ∷ ws) b ≡ w ∷ without ws b
unfolding without
without_rest w ws b n = cond-false (eqb w.block b) _ _ (ne_eqb w.block b n)

-- no write of a block waits exactly if it has no bytes under way
pub not_waiting : (ws : List Write) (b : ℕ) → waits ws b ≡ false → under_way ws b ≡ None
unfolding under_way
not_waiting [] b h = refl
not_waiting (w ∷ ws) b h =
    let parts = or_parts (eqb w.block b) _ h in
    cond-false (eqb w.block b) _ _ parts.0 ∙ not_waiting ws b parts.1

pub none_later : (w : Write) (ws : List Write) (b : ℕ) → apart (w ∷ ws) ≡ true → w.block ≡ b → under_way ws b ≡ None
none_later w ws b a q =
    not_waiting ws b (ap (waits ws) (sym q) ∙ not-true _ (and_parts (not (waits ws w.block)) _ a).0)

-- the write at place i
pub under_way_at : (ws : List Write) (i : ℕ) (w : Write) → apart ws ≡ true → i < length ws → w ≡ get_or ws i w → under_way ws w.block ≡ Some w.bytes
under_way_at [] i w a h e = absurd (omega arith)
under_way_at (v ∷ ws) zero w a h e = under_way_first v ws w.block (ap (λ x. x.block) (sym e)) ∙ ap (λ x. Some x.bytes) (sym e)
under_way_at (v ∷ ws) (suc i) w a h e =
    let later : waits ws w.block ≡ true = subst (λ x. waits ws x.block ≡ true) (sym e) (waits_at ws i w (omega arith)) in
    under_way_rest v ws w.block (apart_first v ws w.block a later) ∙ under_way_at ws i w (apart_rest v ws a) (omega arith) e

without_at : (ws : List Write) (i : ℕ) (w : Write) → apart ws ≡ true → i < length ws → w ≡ get_or ws i w → without ws w.block ≡ remove ws i
without_at [] i w a h e = absurd (omega arith)
without_at (v ∷ ws) zero w a h e = without_first v ws w.block (ap (λ x. x.block) (sym e))
without_at (v ∷ ws) (suc i) w a h e =
    let later : waits ws w.block ≡ true = subst (λ x. waits ws x.block ≡ true) (sym e) (waits_at ws i w (omega arith)) in
    without_rest v ws w.block (apart_first v ws w.block a later) ∙ ap (λ r. v ∷ r) (without_at ws i w (apart_rest v ws a) (omega arith) e)

-- the place of a block that waits
place_of : (ws : List Write) (b : ℕ) → waits ws b ≡ true → (i : ℕ) × (w : Write) × (i < length ws) × (w ≡ get_or ws i w) × (b ≡ w.block)
place_of [] b h = absurd (true≢false (sym h))
place_of (w ∷ ws) b h =
    elim (or_cases (eqb w.block b) _ h) [
      | inl q ↦ (0, w, omega arith, refl, sym (eqb-true w.block b q))
      | inr q ↦ let later = place_of ws b q in (suc later.0, later.1, omega (arith, later.2), later.3, later.4)
    ]

-- a write that waits has a whole block of bytes
sent_long : (ws : List Write) (b : ℕ) (old : Block) → length old ≡ 64 → length (unwrap_or (under_way ws b) old) ≡ 64
unfolding under_way
sent_long [] b old h = h
sent_long (w ∷ ws) b old h =
    cond_both (eqb w.block b) _ _ (λ o. length (unwrap_or o old) ≡ 64) (λ _. w.whole) (λ _. sent_long ws b old h)

-- leaving out the write of a block is removing one place, which is past the end where none waits
left_out : (ws : List Write) (b : ℕ) → (i : ℕ) × (without ws b ≡ remove ws i)
unfolding without
left_out [] b = (0, refl)
left_out (w ∷ ws) b =
    let later = left_out ws b in
    cond_both (eqb w.block b) _ _ (λ left. (i : ℕ) × (left ≡ remove (w ∷ ws) i)) (λ _. (0, refl)) (λ _. (suc later.0, ap (λ r. w ∷ r) later.1))

removed_fewer : (ws : List Write) (i : ℕ) → length (remove ws i) ≤ length ws
removed_fewer [] zero = omega arith
removed_fewer [] (suc i) = omega arith
removed_fewer (w ∷ ws) zero = omega arith
removed_fewer (w ∷ ws) (suc i) = let later = removed_fewer ws i in omega arith

module _ (d : Meaning) (kept : Kept d) where
  -- a landing keeps what devices keep, also where no write of the block waits
  pub landing_kept : (b : ℕ) → Kept (landing d b)
  unfolding landing newest
  landing_kept b =
      let left = left_out d.waiting b in
      record {
        long = length-set d.medium b _ ∙ kept.long;
        whole = λ c h. after_set (λ x. length x ≡ 64) d.medium b c _ []
            (λ q. sent_long d.waiting b _ (ap (λ n. length (confirmed d n)) (sym q) ∙ kept.whole c h)) (kept.whole c h);
        distinct = ap apart left.1 ∙ apart_removed d.waiting left.0 kept.distinct;
        within = ap (inside d.size) left.1 ∙ inside_removed d.size d.waiting left.0 kept.within;
        few = omega (arith, kept.few, removed_fewer d.waiting left.0, ap length left.1);
        some = kept.some;
        bound = kept.bound;
      }

  landing_at : (i : ℕ) (w : Write) → i < length d.waiting → w ≡ get_or d.waiting i w
      → landing d w.block ≡ record { medium = landed d.medium w; waiting = remove d.waiting i; size = d.size; depth = d.depth }
  unfolding landing newest
  landing_at i w h e =
      let sent = under_way_at d.waiting i w kept.distinct h e in
      let left = without_at d.waiting i w kept.distinct h e in
      λ j. record { medium = set d.medium w.block (unwrap_or (sent j) (confirmed d w.block)); waiting = left j; size = d.size; depth = d.depth }

  pub told : (b : ℕ) (e : Meaning) → Lands d b e → (waits d.waiting b ≡ true) × (e ≡ landing d b)
  told b e l =
      let w = l.write in (
        subst (λ x. waits d.waiting x ≡ true) (ap (λ v. v.block) (sym l.is) ∙ sym l.tells) (waits_at d.waiting l.place w l.within),
        l.leaves ∙ sym (landing_at l.place w l.within l.is) ∙ ap (landing d) (sym l.tells),
      )

  pub tells : (b : ℕ) → waits d.waiting b ≡ true → Lands d b (landing d b)
  tells b h =
      let found = place_of d.waiting b h in
      record {
        place = found.0;
        write = found.1;
        within = found.2;
        is = found.3;
        tells = found.4;
        leaves = ap (landing d) found.4 ∙ landing_at found.0 found.1 found.2 found.3;
      }
