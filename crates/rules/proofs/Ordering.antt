-- The three ordering rules hold of every image, and of everything that is free.
use Rattle.std.proofs.Common.{◌≡◌, ℕ, zero, suc, ◌+◌, ◌*◌, ◌/◌, ◌%◌, ◌<◌, ◌≤◌, true, false, not, ◌&&◌, eqb, ltb, leb, ◌≢◌, ◌⊎◌, List, get_or, replicate, Decides, sym, refl, ap, ◌∙◌, subst, inl, inr, arith}
use Rattle.std.specs.Str.{bytes_eq}
use Rattle.std.proofs.lemmas.Bool.{and_parts, and_from, and_cases, and_left, and_right, or_cases, or_parts, or_from, not-true, not-false, not_from_true, not_from_false, both_ways, true≢false, ltb-true, lt-ltb, leb-true, le-leb, eqb-true, eq-eqb, eqb-false, ne_eqb, cases_Bool, cond_both}
use Rattle.std.proofs.lemmas.Slice.Eq.{bytes_eq-Decides}
use Rattle.finite.specs.Finite.{table}
use Rattle.finite.proofs.Decided.{exists_at, exists_from, exists_none, none_exists}
use Rattle.finite.proofs.Tables.{get_or-table}
use Rattle.blocks.specs.Bytes.{quarter}
use Rattle.blocks.specs.Bits.{bit}
use Rattle.layout.specs.Shapes.{inode_block, slot_block, slots, first_data}
use Rattle.layout.specs.Inodes.{present, links, pointer, inode_of}
use Rattle.layout.specs.Entries.{empty, target}
use Rattle.layout.proofs.Coded.{pointer_back}
use Rattle.rules.specs.Views.{slot_of, has_file, part_of}
use Rattle.rules.specs.Standing.{confirmed, firm}
use Rattle.rules.specs.States.{State, is_filled}
use Rattle.rules.specs.References.{leads, view_leads, stands_at, held, anchored, vacant, shown_at}
use Rattle.rules.specs.Kinds.{entries, pointers, inode_in, reach, claimed, in_use, pointer_goes, pointer_ready, entry_goes, entry_ready}
use Rattle.rules.specs.Images.{image_pointers, image_file, image_absent, still_named, image_inode, image, unfilled, due}
use Rattle.rules.specs.Free.{free_inode, free_slot, free_block}
use Rattle.rules.specs.Formed.{Formed}
use Rattle.rules.specs.Ordering.{Firmly, old_at, ReadyBlock, ReadyInode, NothingEarly, UnusedInode, UnusedSlot, UnusedBlock, NamedElsewhere, NothingLost, Settled, ImagesAreOrdered}
use Rattle.rules.proofs.Standing.{firm_decides, stands_false, false_stands}
use Rattle.rules.proofs.Shown.{shown_cases}
use Rattle.rules.proofs.Sent.{sent_inode, image_slot_cases, sent_slot}

module _ (st : State) where
  -- what is ready, in plain words
  ready_block : (b : ℕ) → pointer_ready st b ≡ true → ReadyBlock st b
  unfolding pointer_ready
  ready_block b h =
      let parts = and_parts (firm st.device 2 (λ c. bit c b)) (is_filled st b) (and_parts (ltb b st.shape.blocks) _ h).1 in
      record { marked = (firm_decides st.device 2 (λ c. bit c b)).0 parts.0; filled = parts.1 }

  ready_inode : (e : List ℕ) → entry_ready st e ≡ true → ReadyInode st (target e)
  unfolding entry_ready
  ready_inode e h =
      let i = target e in
      let copies = (firm_decides st.device (inode_block i) (λ c. present (inode_in c i) && leb (reach st i) (links (inode_in c i)))).0 (and_parts (ltb i st.shape.inodes) _ h).1 in
      record {
        present = λ c copy. (and_parts (present (inode_in c i)) _ (copies c copy)).0;
        counted = λ c copy. leb-true (reach st i) (links (inode_in c i)) (and_parts (present (inode_in c i)) _ (copies c copy)).1;
      }

  -- what stands elsewhere, in plain words
  named_elsewhere : (s : ℕ) (e : List ℕ) → entry_goes st s e ≡ true
      → (view_leads (entries st.shape) st.view (target e) ≡ false) ⊎ NamedElsewhere st s (target e)
  unfolding entry_goes anchored
  named_elsewhere s e h =
      elim (or_cases (not (view_leads (entries st.shape) st.view (target e))) _ h) [
        | inl none ↦ inl (not-true _ none)
        | inr some ↦
            let found = exists_at (λ t. not (eqb s t) && anchored (entries st.shape) st (target e) t) (slots st.shape) some in
            let t = found.0 in
            let parts = and_parts (not (eqb s t)) _ found.2 in
            let both = and_parts (leads (entries st.shape) (target e) (slot_of st.view t)) _ parts.1 in
            inr (record {
              slot = t;
              within = found.1;
              other = eqb-false s t (not-true _ parts.0);
              seen = both.0;
              firm = (firm_decides st.device (slot_block st.shape t) (λ c. leads (entries st.shape) (target e) (quarter c (t % 4)))).0 both.1;
            })
      ]

-- zeros point nowhere
zeros_at : (n k : ℕ) → ◌≡◌ {A = ℕ} (get_or (replicate n 0) k 0) 0
zeros_at zero zero = refl
zeros_at zero (suc k) = refl
zeros_at (suc n) zero = refl
zeros_at (suc n) (suc k) = zeros_at n k

zeros_point : (k : ℕ) → pointer (replicate 16 0) k ≡ 0
zeros_point k = λ j. zeros_at 16 (4 + 2 * k) j + 256 * zeros_at 16 (4 + 2 * k + 1) j

module _ (st : State) where
  -- p may stand at place q
  abbrev SafePointer : ℕ → ℕ → Type 0
  SafePointer q p = (p ≡ 0) ⊎ ((p ≡ old_at (pointers st.shape) st q) ⊎ ReadyBlock st p)

  shown_pointer : (q : ℕ) → SafePointer q (shown_at (pointers st.shape) st pointer_goes (pointer_ready st) q)
  unfolding shown_at
  shown_pointer q =
      let new = part_of st.view (q / 6) (q % 6) in
      elim (shown_cases eqb (λ b. eqb b 0) pointer_goes (pointer_ready st) eqb-true (old_at (pointers st.shape) st q) new) [
        | inl e ↦ inr (inl e)
        | inr o ↦ elim o [
          | inl e ↦ inl (e.0 ∙ eqb-true new 0 e.1)
          | inr e ↦ inr (inr (subst (ReadyBlock st) (sym e.0) (ready_block st new e.2)))
        ]
      ]

  image_pointer : (q : ℕ) → SafePointer q (pointer (image_inode st (q / 6)) (q % 6))
  unfolding image_inode image_file image_absent image_pointers
  image_pointer q =
      cond_both (has_file st.view (q / 6)) _ _ Safe
      (λ _. cond_both (firm st.device 1 _) _ _ Safe (λ _. subst (SafePointer q) (sym read) (shown_pointer q)) (λ _. inr (inl refl)))
      (λ _. cond_both (still_named st (q / 6)) _ _ Safe (λ _. inr (inl refl)) (λ _. inl (zeros_point (q % 6))))
    where
      Safe : List ℕ → Type 0
      Safe n = SafePointer q (pointer n (q % 6))

      sent : ℕ → ℕ
      sent = shown_at (pointers st.shape) st pointer_goes (pointer_ready st)

      read : pointer (inode_of (reach st (q / 6)) (table 6 (λ k. sent (6 * (q / 6) + k)))) (q % 6) ≡ sent q
      read =
          let place : 6 * (q / 6) + q % 6 ≡ q = omega arith in
          pointer_back _ (table 6 (λ k. sent (6 * (q / 6) + k))) (q % 6) (omega arith)
          ∙ get_or-table 6 (λ k. sent (6 * (q / 6) + k)) (q % 6) 0 (omega arith) ∙ ap sent place

  image_present : (i : ℕ) → present (image_inode st i) ≡ true
      → (present (inode_in (confirmed st.device (inode_block i)) i) ≡ true) ⊎ Firmly st.device 1 (λ c. bit c i ≡ true)
  unfolding image_inode image_file image_absent
  image_present i =
      cond_both (has_file st.view i) _ _ Marked
      (λ _. cond_both (firm st.device 1 (λ c. bit c i)) _ _ Marked (λ e _. inr ((firm_decides st.device 1 (λ c. bit c i)).0 e)) (λ _. inl))
      (λ _. cond_both (still_named st i) _ _ Marked (λ _. inl) (λ _ e. absurd (true≢false (sym e))))
    where
      Marked : List ℕ → Type 0
      Marked n = present n ≡ true
          → (present (inode_in (confirmed st.device (inode_block i)) i) ≡ true) ⊎ Firmly st.device 1 (λ c. bit c i ≡ true)

module _ (st : State) (formed : Formed st) where
  nothing_early : NothingEarly st
  nothing_early =
      record {
        pointers = λ q h.
            subst (λ n. SafePointer st q (pointer n (q % 6))) (sym (sent_inode st formed (q / 6) (omega arith))) (image_pointer st q);
        entries = λ s h.
            let sent = sent_slot st formed s h in
            elim (image_slot_cases st formed s) [
              | inl e ↦ inr (inl (sent ∙ e))
              | inr o ↦ elim o [
                | inl e ↦ inl (ap empty (sent ∙ e.0) ∙ e.1)
                | inr e ↦ inr (inr (subst (λ x. ReadyInode st (target x)) (sym (sent ∙ e.0)) (ready_inode st _ e.2)))
              ]
            ];
        inodes = λ i h e. image_present st i (ap present (sym (sent_inode st formed i h)) ∙ e);
      }

  nothing_lost : NothingLost st
  nothing_lost s h used gone =
      let sent = sent_slot st formed s h in
      elim (image_slot_cases st formed s) [
        | inl e ↦ absurd (both_ways _ used (ap empty (sym (sent ∙ e)) ∙ gone))
        | inr o ↦ elim o [
          | inl e ↦ named_elsewhere st s (old_at (entries st.shape) st s) e.2
          | inr e ↦ absurd (both_ways _ e.1 (ap empty (sym (sent ∙ e.0)) ∙ gone))
        ]
      ]

module _ (st : State) where
  reused_inode : (i : ℕ) → Decides (free_inode st i) (UnusedInode st i)
  unfolding free_inode in_use
  reused_inode i = (
    (λ e.
        let parts = and_parts (ltb 0 i) _ e in
        let none = or_parts (has_file st.view i) _ (not-true _ parts.1) in
        record { numbered = ltb-true 0 i parts.0; no_file = none.0; absent = stands_false st.device (inode_block i) (λ c. present (inode_in c i)) none.1 }),
    λ u. and_from (ltb 0 i) _ (lt-ltb 0 i u.numbered)
        (not_from_false _ (or_from (has_file st.view i) _ u.no_file (false_stands st.device (inode_block i) (λ c. present (inode_in c i)) u.absent))),
  )

  reused_slot : (s : ℕ) → Decides (free_slot st s) (UnusedSlot st s)
  unfolding vacant
  reused_slot s =
      let firmly = firm_decides st.device (slot_block st.shape s) (λ c. empty (quarter c (s % 4))) in (
        (λ e. let parts = and_parts (empty (slot_of st.view s)) _ e in record { unseen = parts.0; absent = firmly.0 parts.1 }),
        λ u. and_from (empty (slot_of st.view s)) _ u.unseen (firmly.1 u.absent),
      )

  -- no pointer in the view or a standing copy of inode i leads from part k to b
  abbrev FreeOf : ℕ → ℕ → ℕ → Type 0
  FreeOf b i k = (part_of st.view i k ≢ b) × Firmly st.device (inode_block i) (λ c. pointer (inode_in c i) k ≢ b)

  -- a pointer to b, where b is a block of the data area
  led_not : (b p : ℕ) → p ≢ b → leads (pointers st.shape) b p ≡ false
  led_not b p h = and_right (not (eqb p 0)) _ (ne_eqb p b h)

  not_led : (b p : ℕ) → 1 ≤ b → leads (pointers st.shape) b p ≡ false → p ≢ b
  not_led b p some h q =
      both_ways _ h (and_from (not (eqb p 0)) _ (not_from_false _ (ne_eqb p 0 (λ z. omega arith))) (eq-eqb p b q))

  unclaimed_free : (b : ℕ) → 1 ≤ b → claimed st b ≡ false → (i k : ℕ) → i < st.shape.inodes → k < 6 → FreeOf b i k
  unfolding claimed held stands_at
  unclaimed_free b some h i k hi hk =
      let q = 6 * i + k in
      let row : q / 6 ≡ i = omega arith in
      let place : q % 6 ≡ k = omega arith in
      let parts = or_parts (leads (pointers st.shape) b (part_of st.view (q / 6) (q % 6))) _ (exists_none (held (pointers st.shape) st b) (6 * st.shape.inodes) h q (omega arith)) in
      let at : FreeOf b (q / 6) (q % 6) = (
        not_led b _ some parts.0,
        λ c copy. not_led b _ some (stands_false st.device (inode_block (q / 6)) (λ c. leads (pointers st.shape) b (pointer (inode_in c (q / 6)) (q % 6))) parts.1 c copy),
      ) in
      subst (λ x. FreeOf b x k) row (subst (λ y. FreeOf b (q / 6) y) place at)

  free_unclaimed : (b : ℕ) → ((i k : ℕ) → i < st.shape.inodes → k < 6 → FreeOf b i k) → claimed st b ≡ false
  unfolding claimed held stands_at
  free_unclaimed b f =
      none_exists (held (pointers st.shape) st b) (6 * st.shape.inodes) (λ q h.
      let at = f (q / 6) (q % 6) (omega arith) (omega arith) in
      or_from (leads (pointers st.shape) b (part_of st.view (q / 6) (q % 6))) _ (led_not b _ at.0)
      (false_stands st.device (inode_block (q / 6)) (λ c. leads (pointers st.shape) b (pointer (inode_in c (q / 6)) (q % 6))) (λ c copy. led_not b _ (at.1 c copy))))

  reused_block : (b : ℕ) → Decides (free_block st b) (UnusedBlock st b)
  unfolding free_block
  reused_block b = (
    (λ e.
        let parts = and_parts (leb (first_data st.shape) b) _ e in
        let none = or_parts (claimed st b) _ (not-true _ parts.1) in
        let after : first_data st.shape ≤ b = leb-true _ b parts.0 in
        let free = unclaimed_free b (omega arith) none.0 in
        record { in_data = after; unseen = λ i k hi hk. (free i k hi hk).0; absent = λ i k hi hk. (free i k hi hk).1; idle = none.1 }),
    λ u. and_from (leb (first_data st.shape) b) _ (le-leb _ b u.in_data)
        (not_from_false _ (or_from (claimed st b) _ (free_unclaimed b (λ i k hi hk. (u.unseen i k hi hk, u.absent i k hi hk))) u.idle)),
  )

module _ (st : State) (b : ℕ) where
  -- a part of the view at block b
  part_leads : first_data st.shape ≤ b → (i k : ℕ) → i < st.shape.inodes → k < 6 → part_of st.view i k ≡ b
      → view_leads (pointers st.shape) st.view b ≡ true
  unfolding view_leads
  part_leads after i k hi hk e =
      let q = 6 * i + k in
      let row : q / 6 ≡ i = omega arith in
      let place : q % 6 ≡ k = omega arith in
      let at : part_of st.view (q / 6) (q % 6) ≡ b = (λ j. part_of st.view (row j) (place j)) ∙ e in
      exists_from (λ p. leads (pointers st.shape) b (part_of st.view (p / 6) (p % 6))) (6 * st.shape.inodes) q (omega arith)
      (and_from (not (eqb (part_of st.view (q / 6) (q % 6)) 0)) _ (not_from_false _ (ne_eqb _ 0 (λ z. omega arith))) (eq-eqb _ b at))

  leads_part : view_leads (pointers st.shape) st.view b ≡ true → (i : ℕ) × (k : ℕ) × (i < st.shape.inodes) × (k < 6) × (part_of st.view i k ≡ b)
  unfolding view_leads
  leads_part e =
      let found = exists_at (λ p. leads (pointers st.shape) b (part_of st.view (p / 6) (p % 6))) (6 * st.shape.inodes) e in
      let q = found.0 in
      (q / 6, q % 6, omega (arith, found.1), omega arith, eqb-true _ b (and_parts (not (eqb (part_of st.view (q / 6) (q % 6)) 0)) _ found.2).1)

  settled : not (due st b) ≡ true → Settled st b
  unfolding due unfilled
  settled e =
      let parts = or_parts (not (bytes_eq (image st b) (confirmed st.device b))) _ (not-true _ e) in
      record {
        stands = (bytes_eq-Decides (image st b) (confirmed st.device b)).0 (not-false _ parts.0);
        filled = λ after i k hi hk q.
            elim (and_cases (leb (first_data st.shape) b) _ parts.1) [
              | inl f ↦ absurd (both_ways _ f (le-leb _ b after))
              | inr f ↦ elim (and_cases (view_leads (pointers st.shape) st.view b) _ f) [
                | inl g ↦ absurd (both_ways _ g (part_leads after i k hi hk q))
                | inr g ↦ not-false _ g
              ]
            ];
      }

  not_due : Settled st b → not (due st b) ≡ true
  unfolding due unfilled
  not_due s =
      not_from_false _ (or_from (not (bytes_eq (image st b) (confirmed st.device b))) _
      (not_from_true _ ((bytes_eq-Decides (image st b) (confirmed st.device b)).1 s.stands))
      (elim (cases_Bool (leb (first_data st.shape) b)) [
        | inr f ↦ and_left _ _ f
        | inl f ↦ elim (cases_Bool (view_leads (pointers st.shape) st.view b)) [
          | inr g ↦ and_right (leb (first_data st.shape) b) _ (and_left _ _ g)
          | inl g ↦
              let part = leads_part g in
              and_right (leb (first_data st.shape) b) _ (and_right (view_leads (pointers st.shape) st.view b) _
              (not_from_true _ (s.filled (leb-true _ b f) part.0 part.1 part.2 part.3 part.4)))
        ]
      ]))

pub images_are_ordered : ImagesAreOrdered
images_are_ordered st formed =
    record {
      early = nothing_early st formed;
      reused = record { inodes = reused_inode st; slots = reused_slot st; blocks = reused_block st };
      lost = nothing_lost st formed;
      forgotten = λ b. (settled st b, not_due st b);
    }
