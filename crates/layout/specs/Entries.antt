-- Directory entries: 16 bytes with an inode number and a name. An empty slot is all zeros.
use Rattle.std.specs.Prelude.{◌≡◌, ℕ, Bool, List, ◌∷◌}
use Rattle.blocks.specs.Bytes.{word, low, high, zeros, part}

-- the inode that an entry leads to
abbrev pub target : List ℕ → ℕ
target entry = word entry 0

-- the 14 bytes of an entry's name
abbrev pub title : List ℕ → List ℕ
title entry = part entry 2 14

-- a slot that holds no entry
abbrev pub empty : List ℕ → Bool
empty slot = zeros 16 slot

-- the entry that leads a kept name to inode i
abbrev pub entry_of : ℕ → List ℕ → List ℕ
entry_of i name = low i ∷ high i ∷ name

-- these bytes are the entry that leads a kept name to inode i, and they tell both
pub record IsEntry (i : ℕ) (name bytes : List ℕ) : Type 0 where
  pub value : bytes ≡ entry_of i name
  pub target : target bytes ≡ i
  pub title : title bytes ≡ name
