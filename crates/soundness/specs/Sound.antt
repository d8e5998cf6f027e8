-- A sound medium, in plain words: no reference on it leads astray.
use Rattle.std.specs.Prelude.{◌≡◌, ℕ, ◌*◌, ◌<◌, ◌≤◌, true, false, not, ◌⊎◌, List, length, is_some, Decides, slice_index, slice_index_or}
use Rattle.finite.specs.Finite.{count}
use Rattle.blocks.specs.Bits.{bit}
use Rattle.blocks.specs.Images.{image_blocks}
use Rattle.layout.specs.declared.geometry.Shape.{Shape}
use Rattle.layout.specs.Shapes.{Good, first_data, slots}
use Rattle.layout.specs.Inodes.{present, links, pointer}
use Rattle.layout.specs.Entries.{target, title}
use Rattle.layout.specs.Names.{Named}
use Rattle.layout.specs.Heads.{head_of}
use Rattle.layout.specs.Fresh.{prepared}
use Rattle.soundness.specs.Media.{Medium, block, inode, slot, names}
use Rattle.soundness.specs.Verdict.{verdict}

-- 16 bytes that are all zero: an absent inode, an empty slot
abbrev pub Blank : List ℕ → Type 0
Blank bytes = (k : ℕ) → k < 16 → slice_index bytes k ≡ 0

-- a file's inode: kind 1, a zero byte, not inode 0, and marked in the inode map
pub record Filed (m : Medium) (i : ℕ) : Type 0 where
  pub kind : slice_index_or (inode m i) 0 0 ≡ 1
  pub zero_byte : slice_index_or (inode m i) 1 0 ≡ 0
  pub numbered : 1 ≤ i
  pub marked : bit (block m 1) i ≡ true

-- b is a block of the data area, and marked in the block map
pub record Given (g : Shape) (m : Medium) (b : ℕ) : Type 0 where
  pub after_directory : first_data g ≤ b
  pub within : b < g.blocks
  pub marked : bit (block m 2) b ≡ true

-- the entry in slot s leads a name to a present inode
pub record Leads (g : Shape) (m : Medium) (s : ℕ) : Type 0 where
  pub named : Named (title (slot g m s))
  pub within : target (slot g m s) < g.inodes
  pub led : present (inode m (target (slot g m s))) ≡ true

-- a medium is sound at a geometry
pub record SoundAt (g : Shape) (m : Medium) : Type 0 where
  -- the geometry is within its limits, and block 0 tells it, byte for byte
  pub good : Good g
  pub headed : (k : ℕ) → k < 64 → slice_index (block m 0) k ≡ slice_index (head_of g) k
  -- the inode map marks inode 0, and nothing that is no inode
  pub root_marked : bit (block m 1) 0 ≡ true
  pub no_inode_marked : (i : ℕ) → g.inodes ≤ i → i < 512 → bit (block m 1) i ≡ false
  -- the block map marks every block before the data area, and nothing that is no block
  pub fixed_marked : (b : ℕ) → b < first_data g → bit (block m 2) b ≡ true
  pub no_block_marked : (b : ℕ) → g.blocks ≤ b → b < 512 → bit (block m 2) b ≡ false
  -- an inode is absent, or a file's
  pub inodes : (i : ℕ) → i < g.inodes → Blank (inode m i) ⊎ Filed m i
  -- a pointer leads nowhere, or to a block of the data area that was given out
  pub pointers : (i k : ℕ) → i < g.inodes → k < 6 → (pointer (inode m i) k ≡ 0) ⊎ Given g m (pointer (inode m i) k)
  -- no block belongs to two parts
  pub one_owner : (i j k l : ℕ) → i < g.inodes → j < g.inodes → k < 6 → l < 6
      → pointer (inode m i) k ≡ pointer (inode m j) l → (pointer (inode m i) k ≡ 0) ⊎ ((i ≡ j) × (k ≡ l))
  -- a slot is empty, or leads a name to a present inode
  pub entries : (s : ℕ) → s < slots g → Blank (slot g m s) ⊎ Leads g m s
  -- no name stands twice
  pub one_name : (s t : ℕ) → s < slots g → t < slots g → title (slot g m s) ≡ title (slot g m t) → Blank (slot g m s) ⊎ (s ≡ t)
  -- an inode counts at least as many links as slots name it
  pub counted : (i : ℕ) → i < g.inodes → count (slots g) (names g m i) ≤ links (inode m i)

-- a medium of this many blocks is sound: it is so at some geometry of that many
pub record Sound (m : Medium) (size : ℕ) : Type 0 where
  pub shape : Shape
  pub sized : shape.blocks ≡ size
  pub sound : SoundAt shape m

-- the law: the verdict names no fault exactly when the medium is sound
abbrev pub VerdictIsRight : Type 0
VerdictIsRight = (m : Medium) (size : ℕ) → Decides (not (is_some (verdict m size))) (Sound m size)

-- an empty card is sound, whatever lay in the image before
abbrev pub PreparedIsSound : Type 0
PreparedIsSound =
    (g : Shape) → Good g → (image : List ℕ) → length image ≡ 64 * g.blocks → Sound (image_blocks g.blocks (prepared g image)) g.blocks
