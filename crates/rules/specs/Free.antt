-- What is free to be taken, and where names stand.
use Rattle.std.specs.Prelude.{ℕ, Bool, not, ◌&&◌, ◌||◌, List, Option, nat_le, nat_lt}
use Rattle.std.specs.Str.{bytes_eq}
use Rattle.finite.specs.Finite.{exists, lowest}
use Rattle.layout.specs.Shapes.{first_data, slot_block, slots}
use Rattle.layout.specs.Entries.{title}
use Rattle.layout.specs.Names.{padded}
use Rattle.device.specs.Meaning.{waits}
use Rattle.rules.specs.Views.{slot_of}
use Rattle.rules.specs.Standing.{stands}
use Rattle.rules.specs.States.{State}
use Rattle.rules.specs.References.{vacant}
use Rattle.rules.specs.Kinds.{entries, claimed, in_use}

-- an inode from 1 on is free if neither the view nor a standing copy has it
unfoldable pub free_inode : State → ℕ → Bool
free_inode st i = nat_lt 0 i && not (in_use st i)

-- a slot is free if it is empty in the view and in every standing copy
abbrev pub free_slot : State → ℕ → Bool
free_slot st s = vacant (entries st.shape) st s

-- a data block is free if it is unclaimed and no write of it is under way
unfoldable pub free_block : State → ℕ → Bool
free_block st b = nat_le (first_data st.shape) b && not (claimed st b || waits st.device.waiting b)

-- the lowest free inode, slot and block
abbrev pub next_inode : State → Option ℕ
next_inode st = lowest st.shape.inodes (free_inode st)

abbrev pub next_slot : State → Option ℕ
next_slot st = lowest (slots st.shape) (free_slot st)

abbrev pub next_block : State → Option ℕ
next_block st = lowest st.shape.blocks (free_block st)

-- a slot holds this name
abbrev pub titled : List ℕ → List ℕ → Bool
titled name e = bytes_eq (padded name) (title e)

-- the slot that holds a name in the view
unfoldable pub find : State → List ℕ → Option ℕ
find st name = lowest (slots st.shape) (λ s. titled name (slot_of st.view s))

-- a standing copy has the name; where the view lacks it, the name is leaving
unfoldable pub name_stands : State → List ℕ → Bool
name_stands st name = exists (slots st.shape) (λ s. stands st.device (slot_block st.shape s) (λ c. titled name ((entries st.shape).read c s)))
