-- Every call is a list of changes that may be made.
use Rattle.std.proofs.Common.{◌≡◌, ℕ, zero, suc, ◌+◌, ◌-◌, ◌≤◌, Bool, true, false, cond, not, eqb, ltb, List, [], length, is_ok, Ok, Err, refl, ap, ◌∙◌, arith, get_or-set_other}
use Rattle.std.proofs.lemmas.Bool.{not-true, ltb-true, eqb-true, eqb-false, true≢false}
use Rattle.finite.proofs.Decided.{lowest_at}
use Rattle.layout.specs.declared.refusal.Refusal.{Refusal}
use Rattle.layout.specs.declared.refusal.Refusal.TheVariants.{MalformedName, OutOfRange, WrongLength, NoSuchBlock, NoFreeInode, NoFreeBlock, NotDue, UnderWay, NoneWaiting, DeviceFull}
use Rattle.layout.specs.Entries.{empty, entry_of}
use Rattle.layout.specs.Names.{proper, padded}
use Rattle.device.specs.Meaning.{waits}
use Rattle.rules.specs.Views.{no_entry, part_of}
use Rattle.rules.specs.States.{State}
use Rattle.rules.specs.References.{view_leads}
use Rattle.rules.specs.Images.{due}
use Rattle.rules.specs.Free.{free_inode, free_block, next_inode, next_block}
use Rattle.rules.specs.Changes.{take, changed, after}
use Rattle.rules.specs.Calls.{Outcome, answer, changes, next, file_at, make, link, rename, remove, put_part, put, takes, trim, write, collect}
use Rattle.rules.specs.Acts.{Call, Make, Link, Rename, Remove, Put, Trim, Write, Collect, Answer, answering, act}
use Rattle.rules.specs.Allowed.{IsNamed, Part, AllAllowed, CallsAreChanges}
use Rattle.rules.proofs.Checks.{checked, needed, after_new, after_named, after_slot, after_names}
use Rattle.rules.proofs.Named.{droppable_named, free_apart}

module _ (st : State) where
  -- the changes of an outcome may be made
  abbrev pub Good : {A : Type 0} → Outcome A → Type 0
  Good o = AllAllowed st (changes o)

  make_allowed : (name : List ℕ) → Good (make st name)
  unfolding make
  make_allowed name =
      checked Good (λ _. tt) (proper name) MalformedName _ λ formed.
      after_new Good (λ _. tt) st name _ λ unseen gone.
      needed Good (λ _. tt) (next_inode st) NoFreeInode _ λ i found.
      let free = lowest_at (free_inode st) st.shape.inodes i found in
      after_slot Good (λ _. tt) st name _ formed unseen gone λ s nameable.
      (record { within = free.0; free = free.1; nameable = nameable }, tt)

  link_allowed : (old new : List ℕ) → Good (link st old new)
  unfolding link
  link_allowed old new =
      after_names Good (λ _. tt) st old new _ λ o s found d nameable.
      (record { named = droppable_named st o d; nameable = nameable }, tt)

  rename_allowed : (old new : List ℕ) → Good (rename st old new)
  unfolding rename changed
  rename_allowed old new =
      after_names Good (λ _. tt) st old new _ λ o s found d nameable.
      let other = get_or-set_other st.view.slots s o (entry_of (file_at st o) (padded new)) no_entry (free_apart st o s d nameable.free) in
      (record { named = droppable_named st o d; nameable = nameable }, (record { within = d.within; used = ap empty other ∙ d.used }, tt))

  remove_allowed : (name : List ℕ) → Good (remove st name)
  unfolding remove
  remove_allowed name = after_named Good (λ _. tt) st name _ λ s found d. (d, tt)

  put_part_allowed : (i k : ℕ) (bytes : List ℕ) → Part st i k → length bytes ≡ 64 → Good (put_part st i k bytes)
  unfolding put_part
  put_part_allowed i k bytes part long =
      let b = part_of st.view i k in
      by_block (eqb b 0) _ _
      (λ none.
      needed Good (λ _. tt) (next_block st) NoFreeBlock _ λ n found.
      let free = lowest_at (free_block st) st.shape.blocks n found in
      (record { part = part; none = eqb-true b 0 none; within = free.0; free = free.1; long = long }, tt))
      (λ some. (record { part = part; some = eqb-false b 0 some; long = long }, tt))
    where
      by_block : (test : Bool) (new old : Outcome ℕ) → (test ≡ true → Good new) → (test ≡ false → Good old) → Good (cond test new old)
      by_block true new old f g = f refl
      by_block false new old f g = g refl

  put_allowed : (name : List ℕ) (k : ℕ) (bytes : List ℕ) → Good (put st name k bytes)
  unfolding put
  put_allowed name k bytes =
      after_named Good (λ _. tt) st name _ λ s found d.
      checked Good (λ _. tt) (ltb k 6) OutOfRange _ λ within.
      checked Good (λ _. tt) (eqb (length bytes) 64) WrongLength _ λ long.
      put_part_allowed (file_at st s) k bytes
      (record { named = droppable_named st s d; within = ltb-true k 6 within }) (eqb-true (length bytes) 64 long)

  write_allowed : (b : ℕ) → Good (write st b)
  unfolding write
  write_allowed b =
      checked Good (λ _. tt) (ltb b st.shape.blocks) NoSuchBlock _ λ within.
      checked Good (λ _. tt) (not (waits st.device.waiting b)) UnderWay _ λ idle.
      checked Good (λ _. tt) (due st b) NotDue _ λ _.
      checked Good (λ _. tt) (ltb (length st.device.waiting) st.device.depth) DeviceFull _ λ room.
      (record { within = ltb-true _ _ within; idle = not-true _ idle; room = ltb-true _ _ room }, tt)

  collect_allowed : (b : ℕ) → Good (collect st b)
  unfolding collect
  collect_allowed b = checked Good (λ _. tt) (waits st.device.waiting b) NoneWaiting _ λ waiting. (waiting, tt)

  answering_allowed : {A : Type 0} (f : A → Answer) (o : Outcome A) → Good o → Good (answering f o)
  answering_allowed f (Ok d) h = h
  answering_allowed f (Err r) h = tt

-- taking a part away leaves the names, so the next part may be taken away too
takes_allowed : (n : ℕ) (st : State) (i k : ℕ) → IsNamed st i → k + n ≤ 6 → AllAllowed st (takes i k n)
unfolding takes changed view_leads
takes_allowed zero st i k named h = tt
takes_allowed (suc n) st i k named h = (record { named = named; within = omega arith }, takes_allowed n (changed st (take i k)) i (k + 1) named (omega arith))

trim_allowed : (st : State) (name : List ℕ) (k : ℕ) → Good st (trim st name k)
unfolding trim
trim_allowed st name k =
    after_named (Good st) (λ _. tt) st name _ λ s found d.
    checked (Good st) (λ _. tt) (ltb k 6) OutOfRange _ λ within.
    let fits = ltb-true k 6 within in
    takes_allowed (6 - k) st (file_at st s) k (droppable_named st s d) (omega arith)

allowed : (st : State) (c : Call) → Good st (act st c)
unfolding act
allowed st (Make name) = answering_allowed st _ (make st name) (make_allowed st name)
allowed st (Link old new) = answering_allowed st _ (link st old new) (link_allowed st old new)
allowed st (Rename old new) = answering_allowed st _ (rename st old new) (rename_allowed st old new)
allowed st (Remove name) = answering_allowed st _ (remove st name) (remove_allowed st name)
allowed st (Put name part bytes) = answering_allowed st _ (put st name part bytes) (put_allowed st name part bytes)
allowed st (Trim name part) = answering_allowed st _ (trim st name part) (trim_allowed st name part)
allowed st (Write block) = answering_allowed st _ (write st block) (write_allowed st block)
allowed st (Collect block) = answering_allowed st _ (collect st block) (collect_allowed st block)

refused_nothing : {A : Type 0} (st : State) (o : Outcome A) (r : Refusal) → answer o ≡ Err r → (changes o ≡ []) × (next st o ≡ st)
unfolding after
refused_nothing st (Ok d) r e = absurd (true≢false (ap is_ok e))
refused_nothing st (Err q) r e = (refl, refl)

pub calls_are_changes : CallsAreChanges
calls_are_changes st c = record { refused = refused_nothing st (act st c); allowed = allowed st c }
