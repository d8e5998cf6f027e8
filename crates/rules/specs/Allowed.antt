-- When each primitive change may be made, and the law that every call is a list of changes that may be made.
use Rattle.std.specs.Prelude.{◌≡◌, ℕ, ◌<◌, true, false, ◌≢◌, List, [], ◌∷◌, length, None, Err}
use Rattle.blocks.specs.Bytes.{Block}
use Rattle.layout.specs.declared.refusal.Refusal.{Refusal}
use Rattle.layout.specs.Shapes.{slots}
use Rattle.layout.specs.Entries.{empty}
use Rattle.layout.specs.Names.{proper}
use Rattle.device.specs.Meaning.{waits}
use Rattle.rules.specs.Views.{slot_of, part_of}
use Rattle.rules.specs.States.{State}
use Rattle.rules.specs.References.{view_leads}
use Rattle.rules.specs.Kinds.{entries}
use Rattle.rules.specs.Free.{free_inode, free_slot, free_block, find, name_stands}
use Rattle.rules.specs.Changes.{Change, submit, land, create, add_name, drop_name, give, overwrite, take, changed}
use Rattle.rules.specs.Calls.{answer, changes, next}
use Rattle.rules.specs.Acts.{Call, act}

-- block b can be sent: the card has it, no write of it waits, and the device has room
pub record Sendable (st : State) (b : ℕ) : Type 0 where
  pub within : b < st.shape.blocks
  pub idle : waits st.device.waiting b ≡ false
  pub room : length st.device.waiting < st.device.depth

-- a name can come into slot s: neither the view nor a standing copy has it, and the slot is free
pub record Nameable (st : State) (s : ℕ) (name : List ℕ) : Type 0 where
  pub formed : proper name ≡ true
  pub unseen : find st name ≡ None
  pub gone : name_stands st name ≡ false
  pub within : s < slots st.shape
  pub free : free_slot st s ≡ true

-- a file can begin at inode i, with its name in slot s
pub record Creatable (st : State) (i s : ℕ) (name : List ℕ) : Type 0 where
  pub within : i < st.shape.inodes
  pub free : free_inode st i ≡ true
  pub nameable : Nameable st s name

-- the view has a name for file i
abbrev pub IsNamed : State → ℕ → Type 0
IsNamed st i = view_leads (entries st.shape) st.view i ≡ true

-- file i can get one more name, in slot s
pub record Linkable (st : State) (i s : ℕ) (name : List ℕ) : Type 0 where
  pub named : IsNamed st i
  pub nameable : Nameable st s name

-- slot s has a name that can go
pub record Droppable (st : State) (s : ℕ) : Type 0 where
  pub within : s < slots st.shape
  pub used : empty (slot_of st.view s) ≡ false

-- part k of file i can be given or denied a block
pub record Part (st : State) (i k : ℕ) : Type 0 where
  pub named : IsNamed st i
  pub within : k < 6

-- part k of file i can be given block b: it has none, and the block is free
pub record Giveable (st : State) (i k b : ℕ) (bytes : Block) : Type 0 where
  pub part : Part st i k
  pub none : part_of st.view i k ≡ 0
  pub within : b < st.shape.blocks
  pub free : free_block st b ≡ true
  pub long : length bytes ≡ 64

-- part k of file i can be overwritten: it has a block
pub record Writable (st : State) (i k : ℕ) (bytes : Block) : Type 0 where
  pub part : Part st i k
  pub some : part_of st.view i k ≢ 0
  pub long : length bytes ≡ 64

-- a change may be made
abbrev pub Allowed : State → Change → Type 0
Allowed st (submit b) = Sendable st b
Allowed st (land b) = waits st.device.waiting b ≡ true
Allowed st (create i s name) = Creatable st i s name
Allowed st (add_name i s name) = Linkable st i s name
Allowed st (drop_name s) = Droppable st s
Allowed st (give i k b bytes) = Giveable st i k b bytes
Allowed st (overwrite i k bytes) = Writable st i k bytes
Allowed st (take i k) = Part st i k

-- each change of a list may be made when its turn comes
abbrev pub AllAllowed : State → List Change → Type 0
AllAllowed st [] = Unit {0}
AllAllowed st (c ∷ cs) = Allowed st c × AllAllowed (changed st c) cs

-- a refused call makes no change and leaves the state as it was; the changes of an accepted one may all be made
pub record Listed (st : State) (c : Call) : Type 0 where
  pub refused : (r : Refusal) → answer (act st c) ≡ Err r → (changes (act st c) ≡ []) × (next st (act st c) ≡ st)
  pub allowed : AllAllowed st (changes (act st c))

-- the law, for every state and every call
abbrev pub CallsAreChanges : Type 0
CallsAreChanges = (st : State) (c : Call) → Listed st c
