-- Slots of the view that hold a name.
use Rattle.std.proofs.Common.{◌≡◌, ℕ, true, false, not, ◌&&◌, eqb, leb, ◌≢◌, List, length, get_or, Some, sym, refl, ap, ◌∙◌, arith}
use Rattle.std.proofs.lemmas.Bool.{both_ways, and_parts, and_from, not_from_false, leb-true, eq-eqb, ne_eqb}
use Rattle.std.proofs.lemmas.Slice.Eq.{bytes_eq-Decides}
use Rattle.finite.proofs.Decided.{every_at, every_miss, exists_from, lowest_at}
use Rattle.finite.proofs.Tables.{get_or-table}
use Rattle.blocks.proofs.Parts.{part_at}
use Rattle.layout.specs.Shapes.{slots}
use Rattle.layout.specs.Entries.{empty, target, title}
use Rattle.layout.specs.Names.{printable, proper, padded}
use Rattle.layout.proofs.Titles.{printable_some}
use Rattle.rules.specs.Views.{slot_of}
use Rattle.rules.specs.States.{State}
use Rattle.rules.specs.References.{leads, view_leads, vacant}
use Rattle.rules.specs.Kinds.{entries}
use Rattle.rules.specs.Free.{free_slot, titled, find}
use Rattle.rules.specs.Allowed.{IsNamed, Droppable}

-- a name begins with a byte that is not zero
pub proper_begins : (name : List ℕ) → proper name ≡ true → get_or name 0 0 ≡ 0 → ⊥
proper_begins name h =
    let parts = and_parts (leb 1 (length name) && leb (length name) 14) _ h in
    let some = leb-true 1 (length name) (and_parts (leb 1 (length name)) _ parts.0).0 in
    printable_some (get_or name 0 0) (every_at (λ k. printable (get_or name k 0)) (length name) parts.1 0 (omega arith))

-- bytes of which the third is not zero are no empty slot
pub not_empty : (e : List ℕ) → (get_or e 2 0 ≡ 0 → ⊥) → empty e ≡ false
not_empty e h = every_miss (λ k. eqb (get_or e k 0) 0) 16 2 (ne_eqb (get_or e 2 0) 0 h) (omega arith)

pub titled_used : (name e : List ℕ) → proper name ≡ true → titled name e ≡ true → empty e ≡ false
unfolding padded
titled_used name e h t =
    let same = (bytes_eq-Decides (padded name) (title e)).0 t in
    not_empty e (λ z. proper_begins name h
    (sym (get_or-table 14 (λ k. get_or name k 0) 0 0 (omega arith)) ∙ ap (λ l. get_or l 0 0) same ∙ part_at e 2 14 0 (omega arith) ∙ z))

-- the slot that holds a name is one of the directory's, and in use
pub find_droppable : (st : State) (name : List ℕ) (s : ℕ) → proper name ≡ true → find st name ≡ Some s → Droppable st s
unfolding find
find_droppable st name s h f =
    let found = lowest_at (λ s. titled name (slot_of st.view s)) (slots st.shape) s f in
    record { within = found.0; used = titled_used name (slot_of st.view s) h found.1 }

-- the file that a slot in use names has a name
pub droppable_named : (st : State) (s : ℕ) → Droppable st s → IsNamed st (target (slot_of st.view s))
unfolding view_leads
droppable_named st s d =
    let e = slot_of st.view s in
    exists_from (λ t. leads (entries st.shape) (target e) (slot_of st.view t)) (slots st.shape) s d.within
    (and_from (not (empty e)) _ (not_from_false (empty e) d.used) (eq-eqb (target e) (target e) refl))

-- a free slot is not one in use
pub free_apart : (st : State) (o s : ℕ) → Droppable st o → free_slot st s ≡ true → o ≢ s
unfolding vacant
free_apart st o s d free q =
    both_ways (empty (slot_of st.view o)) d.used (ap (λ t. empty (slot_of st.view t)) q ∙ (and_parts _ _ free).0)
