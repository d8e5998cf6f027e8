-- A rename moves a name, and a trim takes the rest of a file.
use Rattle.std.proofs.Common.{◌≡◌, ℕ, zero, suc, ◌+◌, ◌-◌, ◌<◌, ◌≤◌, true, false, not, ltb, ◌≢◌, List, [], length, get_or, set, is_some, is_ok, Some, None, Ok, unwrap_or, sym, refl, ap, ◌∙◌, subst, inl, inr, arith, get_or-set_other, get_or-set_same}
use Rattle.std.proofs.lemmas.Bool.{cases_eq, cases_lt, and_from, true≢false, lt-ltb, le-ltb, ltb-true, eq-eqb, not_from_false, cond-true, cond-false}
use Rattle.std.proofs.lemmas.List.{get_or_past, set_past}
use Rattle.finite.proofs.Decided.{exists_from}
use Rattle.finite.proofs.Tables.{get_or-table}
use Rattle.layout.specs.declared.refusal.Refusal.TheVariants.{OutOfRange}
use Rattle.layout.specs.Shapes.{slots}
use Rattle.layout.specs.Entries.{empty, target, entry_of}
use Rattle.layout.specs.Names.{proper, padded}
use Rattle.layout.proofs.Coded.{target_back}
use Rattle.rules.specs.Views.{View, no_entry, slot_of, has_file, pointers_of, part_of, with_slot, with_file}
use Rattle.rules.specs.States.{State, with_view}
use Rattle.rules.specs.References.{leads, view_leads}
use Rattle.rules.specs.Kinds.{entries}
use Rattle.rules.specs.Changes.{take, with_part, kept_if_named, unnamed, changed, after}
use Rattle.rules.specs.Calls.{Outcome, answer, next, file_at, rename, takes, trim}
use Rattle.rules.specs.Allowed.{Nameable, Droppable}
use Rattle.rules.specs.Formed.{Formed}
use Rattle.rules.specs.Effects.{Moved, Trimmed, CallsInPlainWords}
use Rattle.rules.proofs.Checks.{checked, after_named, after_names}
use Rattle.rules.proofs.Named.{proper_begins, not_empty, free_apart}

-- the entry of a name is no empty slot
entry_used : (i : ℕ) (name : List ℕ) → proper name ≡ true → empty (entry_of i (padded name)) ≡ false
unfolding padded
entry_used i name h = not_empty (entry_of i (padded name)) (λ z. proper_begins name h (sym (get_or-table 14 (λ k. get_or name k 0) 0 0 (omega arith)) ∙ z))

-- a rename
module _ (st : State) (formed : Formed st) (old new : List ℕ) (s : ℕ) where
  abbrev Moves : Outcome ℕ → Type 0
  Moves o = answer o ≡ Ok s → Moved st old new s (next st o)

  -- the view with the new name, and then without the old one
  module _ (o : ℕ) (d : Droppable st o) (n : Nameable st s new) where
    abbrev named : View
    named = with_slot st.view s (entry_of (file_at st o) (padded new))

    abbrev moved : View
    moved = with_slot named o no_entry

    old_slot : slot_of named o ≡ slot_of st.view o
    old_slot = get_or-set_other st.view.slots s o _ no_entry (free_apart st o s d n.free)

    new_slot : slot_of moved s ≡ entry_of (file_at st o) (padded new)
    new_slot =
        get_or-set_other named.slots o s no_entry no_entry (λ q. free_apart st o s d n.free (sym q))
        ∙ get_or-set_same st.view.slots s _ no_entry (omega (arith, n.within, formed.view.slots_long))

    -- the file still has a name
    still : view_leads (entries st.shape) moved (target (slot_of named o)) ≡ true
    unfolding view_leads
    still =
        let e = entry_of (file_at st o) (padded new) in
        exists_from (λ t. leads (entries st.shape) (target (slot_of named o)) (slot_of moved t)) (slots st.shape) s n.within
        (ap (leads (entries st.shape) (target (slot_of named o))) new_slot
        ∙ and_from (not (empty e)) _ (not_from_false _ (entry_used (file_at st o) new n.formed))
        (eq-eqb (target e) _ (target_back (file_at st o) (padded new) ∙ ap target (sym old_slot))))

    leaves : unnamed st.shape named o ≡ moved
    unfolding unnamed kept_if_named
    leaves = cond-true _ _ _ still

  rename_moves : Moves (rename st old new)
  unfolding rename after changed
  rename_moves =
      after_names Moves (λ r e. absurd (true≢false (sym (ap is_ok e)))) st old new _ λ o t found d n e.
      let same : t ≡ s = cc in
      let n = subst (λ x. Nameable st x new) same n in
      record {
        from = o;
        found = found;
        leaves = ap (λ x. with_view st (unnamed st.shape (with_slot st.view x (entry_of (file_at st o) (padded new))) o)) same ∙ ap (with_view st) (leaves o d n);
      }

-- parts of files in a view with another file at inode i
module _ (v : View) (i : ℕ) (p : List ℕ) where
  parts_here : i < length v.files → (j : ℕ) → part_of (with_file v i (Some p)) i j ≡ get_or p j 0
  parts_here h j = ap (λ o. get_or (unwrap_or o []) j 0) (get_or-set_same v.files i (Some p) None h)

  parts_past : length v.files ≤ i → (j : ℕ) → part_of (with_file v i (Some p)) i j ≡ part_of v i j
  parts_past h j = ap (λ fs. get_or (unwrap_or (get_or fs i None) []) j 0) (set_past v.files i (Some p) h)

  parts_other : (m j : ℕ) → m ≢ i → part_of (with_file v i (Some p)) m j ≡ part_of v m j
  parts_other m j n = ap (λ o. get_or (unwrap_or o []) j 0) (get_or-set_other v.files i m (Some p) None n)

  file_other : (m : ℕ) → m ≢ i → has_file (with_file v i (Some p)) m ≡ has_file v m
  file_other m n = ap is_some (get_or-set_other v.files i m (Some p) None n)

-- the parts of file i after part k was taken
set_zero : (p : List ℕ) (k : ℕ) → get_or (set p k 0) k 0 ≡ 0
set_zero p k = elim (cases_lt k (length p)) [
  | inl h ↦ get_or-set_same p k 0 0 h
  | inr h ↦ ap (λ q. get_or q k 0) (set_past p k 0 h) ∙ get_or_past p k 0 h
]

module _ (v : View) (i k : ℕ) where
  taken_other : (j : ℕ) → j ≢ k → part_of (with_part v i k 0) i j ≡ part_of v i j
  taken_other j n = elim (cases_lt i (length v.files)) [
    | inl h ↦ parts_here v i _ h j ∙ get_or-set_other (pointers_of v i) k j 0 0 n
    | inr h ↦ parts_past v i _ h j
  ]

  taken_here : part_of (with_part v i k 0) i k ≡ 0
  taken_here = elim (cases_lt i (length v.files)) [
    | inl h ↦ parts_here v i _ h k ∙ set_zero (pointers_of v i) k
    | inr h ↦ parts_past v i _ h k ∙ ap (λ o. get_or (unwrap_or o []) k 0) (get_or_past v.files i None h) ∙ get_or_past [] k 0 (omega arith)
  ]

-- n parts of file i were taken, from part k on
record Taken (st : State) (i k n : ℕ) (last : State) : Type 0 where
  here : (j : ℕ) → k ≤ j → j < k + n → part_of last.view i j ≡ 0
  before : (j : ℕ) → j < k → part_of last.view i j ≡ part_of st.view i j
  others : (m j : ℕ) → m ≢ i → part_of last.view m j ≡ part_of st.view m j
  files : (m : ℕ) → m ≢ i → has_file last.view m ≡ has_file st.view m
  slots : last.view.slots ≡ st.view.slots
  bytes : last.view.bytes ≡ st.view.bytes
  filled : last.filled ≡ st.filled
  device : last.device ≡ st.device

taken : (n : ℕ) (st : State) (i k : ℕ) → Taken st i k n (after st (takes i k n))
unfolding after takes changed
taken zero st i k =
    record {
      here = λ j a b. absurd (omega arith);
      before = λ j h. refl;
      others = λ m j n. refl;
      files = λ m n. refl;
      slots = refl;
      bytes = refl;
      filled = refl;
      device = refl;
    }
taken (suc n) st i k =
    let later = taken n (changed st (take i k)) i (k + 1) in
    record {
      here = λ j a b. elim (cases_eq j k) [
        | inl q ↦ later.before j (omega arith) ∙ ap (part_of (with_part st.view i k 0) i) q ∙ taken_here st.view i k
        | inr q ↦ later.here j (omega arith) (omega arith)
      ];
      before = λ j h. later.before j (omega arith) ∙ taken_other st.view i k j (λ q. omega arith);
      others = λ m j q. later.others m j q ∙ parts_other st.view i _ m j q;
      files = λ m q. later.files m q ∙ file_other st.view i _ m q;
      slots = later.slots;
      bytes = later.bytes;
      filled = later.filled;
      device = later.device;
    }

-- a trim
module _ (st : State) (name : List ℕ) (k : ℕ) where
  abbrev Trims : Outcome (Unit {0}) → Type 0
  Trims o = answer o ≡ Ok tt → Trimmed st name k (next st o)

  trim_takes : Trims (trim st name k)
  unfolding trim
  trim_takes =
      after_named Trims (λ r e. absurd (true≢false (sym (ap is_ok e)))) st name _ λ s found d.
      checked Trims (λ r e. absurd (true≢false (sym (ap is_ok e)))) (ltb k 6) OutOfRange _ λ fits e.
      let within = ltb-true k 6 fits in
      let all = taken (6 - k) st (file_at st s) k in
      record {
        slot = s;
        found = found;
        parts = λ j h. elim (cases_lt j k) [
          | inl l ↦ all.before j l ∙ sym (cond-true (ltb j k) _ _ (lt-ltb j k l))
          | inr l ↦ all.here j l (omega arith) ∙ sym (cond-false (ltb j k) _ _ (le-ltb j k l))
        ];
        others = all.others;
        files = all.files;
        slots = all.slots;
        bytes = all.bytes;
        filled = all.filled;
        device = all.device;
      }

pub calls_in_plain_words : CallsInPlainWords
calls_in_plain_words st formed = record { rename = rename_moves st formed; trim = trim_takes st }
