-- What stands on a medium: its blocks, and the inodes and slots in them.
use Rattle.std.specs.Prelude.{ℕ, ◌%◌, Bool, not, ◌&&◌, List, [], ◌==◌, slice_index_or}
use Rattle.blocks.specs.Bytes.{Block, quarter}
use Rattle.layout.specs.declared.geometry.Shape.{Shape}
use Rattle.layout.specs.Shapes.{inode_block, slot_block}
use Rattle.layout.specs.Entries.{empty, target}

-- a medium is the list of its blocks
abbrev pub Medium : Type 0
Medium = List Block

-- block b; no bytes where there is none
abbrev pub block : Medium → ℕ → Block
block m b = slice_index_or m b []

-- the 16 bytes of inode i
abbrev pub inode : Medium → ℕ → List ℕ
inode m i = quarter (block m (inode_block i)) (i % 4)

-- the 16 bytes of slot s
abbrev pub slot : Shape → Medium → ℕ → List ℕ
slot g m s = quarter (block m (slot_block g s)) (s % 4)

-- slot s names inode i
abbrev pub names : Shape → Medium → ℕ → ℕ → Bool
names g m i s = not (empty (slot g m s)) && target (slot g m s) == i
