-- How writes pass from the queue to the device below.
use Rattle.std.proofs.Common.{◌≡◌, ℕ, suc, ◌+◌, ◌<◌, ◌≤◌, true, false, List, [], ◌∷◌, ◌++◌, length, is_ok, Ok, Err, Result, Some, Option, sym, refl, ap, ◌∙◌, subst, ⊎_elim, append_assoc, arith}
use Rattle.std.specs.List.{remove}
use Rattle.std.proofs.lemmas.List.Edits.{length-remove}
use Rattle.std.proofs.lemmas.List.{length-append, get_or_append_left}
use Rattle.std.proofs.lemmas.Bool.{cond-true, cond-false, lt-ltb, cases_lt, both_ways}
use Rattle.layout.specs.declared.refusal.Refusal.{Refusal}
use Rattle.device.specs.declared.types.Write.{Write}
use Rattle.device.specs.Meaning.{Meaning, Lands, Collected, waits, apart, inside, landed, submit_answer, submitted}
use Rattle.device.proofs.Waits.{waits_left, waits_removed, apart_removed, apart_push, apart_middle, inside_removed, inside_right, inside_first, inside_push, removed_front}
use Rattle.staging.specs.Staged.{Staged, above, deeper}

-- a write that passes each check is taken
pub accepted : (d : Meaning) (b : ℕ) → b < d.size → waits d.waiting b ≡ false → length d.waiting < d.depth → submit_answer d b ≡ Ok tt
accepted d b h n l =
    cond-true _ _ _ (lt-ltb b d.size h) ∙ cond-false _ _ _ n ∙ cond-true _ _ _ (lt-ltb (length d.waiting) d.depth l)

-- a refusal where the other checks pass says that the device is full
full : (d : Meaning) (b : ℕ) (e : Refusal) → b < d.size → waits d.waiting b ≡ false → Err e ≡ submit_answer d b → d.depth ≤ length d.waiting
full d b e h n a =
    ⊎_elim
    (λ lt. absurd (both_ways false refl (ap is_ok (a ∙ accepted d b h n lt))))
    (λ le. le)
    (cases_lt (length d.waiting) d.depth)

-- one more write in the queue, where the device below is full
joined : (d : Meaning) (room : ℕ) (queue : List Write) (w : Write) → Staged d room queue → d.depth ≤ length d.waiting → w.block < d.size → waits (d.waiting ++ queue) w.block ≡ false → Staged d room (queue ++ w ∷ [])
joined d room queue w s f h n =
    let list = append_assoc d.waiting queue (w ∷ []) in
    record {
      added = s.added;
      eager = λ lt. absurd (omega arith);
      distinct = subst (λ l. apart l ≡ true) list (apart_push (d.waiting ++ queue) w s.distinct n);
      within = subst (λ l. inside d.size l ≡ true) list (inside_push d.size (d.waiting ++ queue) w s.within h);
    }

-- the same where the device below has refused it: nothing but its room can be why
pub queued : {d d' : Meaning} {room : ℕ} {queue : List Write} (w : Write) (r : Result (Unit {0}) Refusal) → Staged d room queue
    → r ≡ submit_answer d w.block → d' ≡ submitted r d w → is_ok r ≡ false → w.block < d.size → waits (d.waiting ++ queue) w.block ≡ false
    → Staged d' room (queue ++ w ∷ [])
queued w (Ok u) s a e nay h n = absurd (both_ways true nay refl)
queued {d} {d'} {room} {queue} w (Err x) s a e nay h n =
    subst (λ m. Staged m room (queue ++ w ∷ [])) (sym e)
    (joined d room queue w s (full d w.block x h (waits_left d.waiting queue w.block n) a) h n)

-- the block that the device below tells is that of a write that has landed there
pub told_lands : {d mid : Meaning} {b : ℕ} {told : Option ℕ} → Collected d told mid → told ≡ Some b → Lands d b mid
told_lands {d} {mid} c is = subst (λ o. Collected d o mid) is c

-- what lands below leaves the whole list from the same place
pub landed_above : {d mid : Meaning} {b : ℕ} {queue rest : List Write} → queue ≡ rest → Lands d b mid → Lands (above queue d) b (above rest mid)
landed_above {d} {mid} {b} {queue} {rest} same l =
    let list = ap (λ x. remove d.waiting l.place ++ x) (sym same) ∙ sym (removed_front d.waiting queue l.place l.within) in
    record {
      place = l.place;
      write = l.write;
      within = omega (arith, length-append d.waiting queue, l.within);
      is = l.is ∙ sym (get_or_append_left d.waiting queue _ l.place l.within);
      tells = l.tells;
      leaves = ap (above rest) l.leaves ∙ (λ i. record { medium = landed d.medium l.write; waiting = list i; size = d.size; depth = deeper d.depth });
    }

-- where a write has landed below, the device there takes the oldest write of the queue
pub refilled : {d mid new : Meaning} {room b : ℕ} {queue rest : List Write} (q : Write) (r : Result (Unit {0}) Refusal) → Staged d room queue → length d.waiting ≤ d.depth
    → queue ≡ q ∷ rest → Lands d b mid → r ≡ submit_answer mid q.block → new ≡ submitted r mid q
    → Staged new room rest × Lands (above queue d) b (above rest new)
refilled {d} {mid} {new} {room} {b} {queue} {rest} q r before few items l answer after =
    let low = d.waiting in
    let k = l.place in
    let s = subst (Staged d room) items before in
    let full : (length low < d.depth → ⊥) = λ lt. let z : suc (length rest) ≡ 0 = ap length (s.eager lt) in omega arith in
    let fewer : length (remove low k) + 1 ≡ length low = length-remove low k l.within in
    let longer = length-append (remove low k) (q ∷ []) in
    let free : waits (remove low k) q.block ≡ false = waits_removed low k q.block (apart_middle low q rest s.distinct) in
    let below : q.block < d.size = inside_first d.size q rest (inside_right d.size low (q ∷ rest) s.within) in
    let less : Meaning = record { medium = landed d.medium l.write; waiting = remove low k; size = d.size; depth = d.depth } in
    let taken : r ≡ Ok tt = answer ∙ ap (λ m. submit_answer m q.block) l.leaves ∙ accepted less q.block below free (omega arith) in
    let is : new ≡ submitted (Ok tt) less q = after ∙ (λ i. submitted (taken i) (l.leaves i) q) in
    let list : (remove low k ++ q ∷ []) ++ rest ≡ remove (low ++ q ∷ rest) k = append_assoc (remove low k) (q ∷ []) rest ∙ sym (removed_front low (q ∷ rest) k l.within) in
    let whole : (remove low k ++ q ∷ []) ++ rest ≡ remove (low ++ queue) k = list ∙ ap (λ x. remove (low ++ x) k) (sym items) in
    let staged : Staged (submitted (Ok tt) less q) room rest = record {
      added = s.added;
      eager = λ lt. absurd (full (omega arith));
      distinct = subst (λ ws. apart ws ≡ true) (sym list) (apart_removed (low ++ q ∷ rest) k s.distinct);
      within = subst (λ ws. inside d.size ws ≡ true) (sym list) (inside_removed d.size (low ++ q ∷ rest) k s.within);
    } in (
      subst (λ m. Staged m room rest) (sym is) staged,
      record {
        place = k;
        write = l.write;
        within = omega (arith, length-append low queue, l.within);
        is = l.is ∙ sym (get_or_append_left low queue _ k l.within);
        tells = l.tells;
        leaves = ap (above rest) is ∙ (λ i. record { medium = landed d.medium l.write; waiting = whole i; size = d.size; depth = deeper d.depth });
      },
    )
