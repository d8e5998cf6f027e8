-- What is read from a block that is a map, and written as one.
use Rattle.std.specs.Prelude.{◌≡◌, ℕ, ◌<◌, Bool, false, List, slice_index_or}
use Rattle.finite.specs.Finite.{table}
use Rattle.blocks.specs.Bytes.{Block}
use Rattle.blocks.specs.Bits.{bit, packed}

-- whether a list of marks has n
abbrev pub marks : List Bool → ℕ → Bool
marks list n = slice_index_or list n false

-- the marks of a block; written again they are that block
pub record IsRead (block : Block) (list : List Bool) : Type 0 where
  pub value : list ≡ table 512 (bit block)
  pub back : packed (marks list) ≡ block

-- the block of 512 marks; read again it has the same marks
pub record IsWritten (list : List Bool) (block : Block) : Type 0 where
  pub value : block ≡ packed (marks list)
  pub back : (n : ℕ) → n < 512 → bit block n ≡ marks list n
