-- The three ordering rules of soft updates, as laws of every image and of everything that is free; and what is due.
use Rattle.std.specs.Prelude.{◌≡◌, ℕ, ◌<◌, ◌≤◌, true, false, not, ◌≢◌, ◌⊎◌, Decides}
use Rattle.blocks.specs.Bytes.{Block}
use Rattle.blocks.specs.Bits.{bit}
use Rattle.layout.specs.Shapes.{first_data, inode_block, slots}
use Rattle.layout.specs.Inodes.{present, links, pointer}
use Rattle.layout.specs.Entries.{empty, target}
use Rattle.device.specs.Meaning.{Meaning, waits}
use Rattle.rules.specs.Views.{slot_of, has_file, part_of}
use Rattle.rules.specs.Standing.{Copy, confirmed}
use Rattle.rules.specs.States.{State, is_filled}
use Rattle.rules.specs.References.{Kind, leads, view_leads}
use Rattle.rules.specs.Kinds.{entries, pointers, inode_in, reach}
use Rattle.rules.specs.Images.{image, due}
use Rattle.rules.specs.Free.{free_inode, free_slot, free_block}
use Rattle.rules.specs.Formed.{Formed}

-- P holds of every standing copy of block b
abbrev pub Firmly : Meaning → ℕ → (Block → Type 0) → Type 0
Firmly d b P = (c : Block) → Copy d b c → P c

-- what the medium has at place p
abbrev pub old_at : {R : Type 0} → Kind R → State → ℕ → R
old_at k st p = k.read (confirmed st.device (k.home p)) p

-- what the image of its block has at place p
abbrev pub sent_at : {R : Type 0} → Kind R → State → ℕ → R
sent_at k st p = k.read (image st (k.home p)) p

-- block b is marked in every standing copy of the block map, and filled
pub record ReadyBlock (st : State) (b : ℕ) : Type 0 where
  pub marked : Firmly st.device 2 (λ c. bit c b ≡ true)
  pub filled : is_filled st b ≡ true

-- every standing copy has inode i present, and counts at least as many links as slots can name it
pub record ReadyInode (st : State) (i : ℕ) : Type 0 where
  pub present : Firmly st.device (inode_block i) (λ c. present (inode_in c i) ≡ true)
  pub counted : Firmly st.device (inode_block i) (λ c. reach st i ≤ links (inode_in c i))

-- Never point to what is not there yet: what is sent is empty, or stands on the medium already, or leads to what is ready.
pub record NothingEarly (st : State) : Type 0 where
  pub pointers : (q : ℕ) → q < (pointers st.shape).places
      → (sent_at (pointers st.shape) st q ≡ 0)
      ⊎ ((sent_at (pointers st.shape) st q ≡ old_at (pointers st.shape) st q)
      ⊎ ReadyBlock st (sent_at (pointers st.shape) st q))
  pub entries : (s : ℕ) → s < slots st.shape
      → (empty (sent_at (entries st.shape) st s) ≡ true)
      ⊎ ((sent_at (entries st.shape) st s ≡ old_at (entries st.shape) st s)
      ⊎ ReadyInode st (target (sent_at (entries st.shape) st s)))
  -- and an inode is marked before it is present
  pub inodes : (i : ℕ) → i < st.shape.inodes → present (inode_in (image st (inode_block i)) i) ≡ true
      → (present (inode_in (confirmed st.device (inode_block i)) i) ≡ true) ⊎ Firmly st.device 1 (λ c. bit c i ≡ true)

-- inode i is free
pub record UnusedInode (st : State) (i : ℕ) : Type 0 where
  pub numbered : 1 ≤ i
  pub no_file : has_file st.view i ≡ false
  pub absent : Firmly st.device (inode_block i) (λ c. present (inode_in c i) ≡ false)

-- slot s is free
pub record UnusedSlot (st : State) (s : ℕ) : Type 0 where
  pub unseen : empty (slot_of st.view s) ≡ true
  pub absent : Firmly st.device ((entries st.shape).home s) (λ c. empty ((entries st.shape).read c s) ≡ true)

-- block b is free
pub record UnusedBlock (st : State) (b : ℕ) : Type 0 where
  pub in_data : first_data st.shape ≤ b
  pub unseen : (i k : ℕ) → i < st.shape.inodes → k < 6 → part_of st.view i k ≢ b
  pub absent : (i k : ℕ) → i < st.shape.inodes → k < 6 → Firmly st.device (inode_block i) (λ c. pointer (inode_in c i) k ≢ b)
  pub idle : waits st.device.waiting b ≡ false

-- Never use anything again while something may still refer to it: what is free is so in the view and in every standing copy.
pub record NothingReused (st : State) : Type 0 where
  pub inodes : (i : ℕ) → Decides (free_inode st i) (UnusedInode st i)
  pub slots : (s : ℕ) → Decides (free_slot st s) (UnusedSlot st s)
  pub blocks : (b : ℕ) → Decides (free_block st b) (UnusedBlock st b)

-- another slot than s names inode i in the view and in every standing copy
pub record NamedElsewhere (st : State) (s i : ℕ) : Type 0 where
  pub slot : ℕ
  pub within : slot < slots st.shape
  pub other : s ≢ slot
  pub seen : leads (entries st.shape) i (slot_of st.view slot) ≡ true
  pub firm : Firmly st.device ((entries st.shape).home slot) (λ c. leads (entries st.shape) i ((entries st.shape).read c slot) ≡ true)

-- Never take the last name of a file away: an entry is sent empty only if the view has no name for its inode, or another one stands.
abbrev pub NothingLost : State → Type 0
NothingLost st =
    (s : ℕ) → s < slots st.shape
    → empty (old_at (entries st.shape) st s) ≡ false → empty (sent_at (entries st.shape) st s) ≡ true
    → (view_leads (entries st.shape) st.view (target (old_at (entries st.shape) st s)) ≡ false)
    ⊎ NamedElsewhere st s (target (old_at (entries st.shape) st s))

-- block b needs no write: its image stands on the medium, and it is filled if the view has a part there
pub record Settled (st : State) (b : ℕ) : Type 0 where
  pub stands : image st b ≡ confirmed st.device b
  pub filled : first_data st.shape ≤ b → (i k : ℕ) → i < st.shape.inodes → k < 6 → part_of st.view i k ≡ b → is_filled st b ≡ true

-- Never leave out what is missing: a block is not due exactly if it needs no write.
abbrev pub NothingForgotten : State → Type 0
NothingForgotten st = (b : ℕ) → Decides (not (due st b)) (Settled st b)

-- the laws
pub record OrderingRules (st : State) : Type 0 where
  pub early : NothingEarly st
  pub reused : NothingReused st
  pub lost : NothingLost st
  pub forgotten : NothingForgotten st

abbrev pub ImagesAreOrdered : Type 0
ImagesAreOrdered = (st : State) → Formed st → OrderingRules st
