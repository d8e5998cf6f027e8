-- What the calls that make more than one change leave, in plain words.
use Rattle.std.specs.Prelude.{◌≡◌, ℕ, ◌<◌, cond, ◌≢◌, List, Some, Ok, nat_lt}
use Rattle.layout.specs.Entries.{entry_of}
use Rattle.layout.specs.Names.{padded}
use Rattle.rules.specs.Views.{no_entry, has_file, part_of, with_slot}
use Rattle.rules.specs.States.{State, with_view}
use Rattle.rules.specs.Free.{find}
use Rattle.rules.specs.Calls.{answer, next, file_at, rename, trim}
use Rattle.rules.specs.Formed.{Formed}

-- a rename moves a name from one slot to another: the file keeps its parts, and all else is as it was
pub record Moved (st : State) (old new : List ℕ) (s : ℕ) (after : State) : Type 0 where
  pub from : ℕ
  pub found : find st old ≡ Some from
  pub leaves : after ≡ with_view st (with_slot (with_slot st.view s (entry_of (file_at st from) (padded new))) from no_entry)

-- a trim takes the parts of a file from k on: its other parts, and all else, are as they were
pub record Trimmed (st : State) (name : List ℕ) (k : ℕ) (after : State) : Type 0 where
  pub slot : ℕ
  pub found : find st name ≡ Some slot
  pub parts : (j : ℕ) → j < 6 → part_of after.view (file_at st slot) j ≡ cond (nat_lt j k) (part_of st.view (file_at st slot) j) 0
  pub others : (i j : ℕ) → i ≢ file_at st slot → part_of after.view i j ≡ part_of st.view i j
  pub files : (i : ℕ) → i ≢ file_at st slot → has_file after.view i ≡ has_file st.view i
  pub slots : after.view.slots ≡ st.view.slots
  pub bytes : after.view.bytes ≡ st.view.bytes
  pub filled : after.filled ≡ st.filled
  pub device : after.device ≡ st.device

-- the laws
pub record Effects (st : State) : Type 0 where
  pub rename : (old new : List ℕ) (s : ℕ) → answer (rename st old new) ≡ Ok s → Moved st old new s (next st (rename st old new))
  pub trim : (name : List ℕ) (k : ℕ) → answer (trim st name k) ≡ Ok tt → Trimmed st name k (next st (trim st name k))

abbrev pub CallsInPlainWords : Type 0
CallsInPlainWords = (st : State) → Formed st → Effects st
