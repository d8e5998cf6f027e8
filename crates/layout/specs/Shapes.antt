-- The geometry of a card, and the block ranges that follow from it.
use Rattle.std.specs.Prelude.{◌≡◌, ℕ, ◌+◌, ◌*◌, ◌/◌, ◌%◌, ◌<◌, ◌≤◌, Bool, ◌&&◌, ◌==◌, nat_le, nat_lt}
use Rattle.layout.specs.declared.geometry.Shape.{Shape}

-- the limits of a geometry
pub record Good (g : Shape) : Type 0 where
  pub blocks_low : 8 ≤ g.blocks
  pub blocks_high : g.blocks ≤ 128
  pub inodes_low : 4 ≤ g.inodes
  pub inodes_high : g.inodes ≤ 32
  pub inodes_even : g.inodes % 4 ≡ 0
  pub directory_low : 1 ≤ g.directory
  pub directory_high : g.directory ≤ 8
  -- at least one block is left for data
  pub room : 3 + g.inodes / 4 + g.directory < g.blocks

-- the same limits as tests: a number of blocks
abbrev pub good_blocks : ℕ → Bool
good_blocks n = nat_le 8 n && nat_le n 128

-- a number of inodes
abbrev pub good_inodes : ℕ → Bool
good_inodes i = nat_le 4 i && (nat_le i 32 && i % 4 == 0)

-- a number of directory blocks, beside n blocks and i inodes
abbrev pub good_directory : ℕ → ℕ → ℕ → Bool
good_directory n i d = nat_le 1 d && (nat_le d 8 && nat_lt (3 + i / 4 + d) n)

-- Block 0 is the head, block 1 the inode map, block 2 the block map; then come the inodes, the directory and the data area.

-- the block of inode i
abbrev pub inode_block : ℕ → ℕ
inode_block i = 3 + i / 4

-- the first block of the directory
abbrev pub first_directory : Shape → ℕ
first_directory g = 3 + g.inodes / 4

-- the block of slot s
abbrev pub slot_block : Shape → ℕ → ℕ
slot_block g s = first_directory g + s / 4

-- how many slots the directory has
abbrev pub slots : Shape → ℕ
slots g = 4 * g.directory

-- the first block of the data area
abbrev pub first_data : Shape → ℕ
first_data g = first_directory g + g.directory
