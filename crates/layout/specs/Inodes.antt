-- Inodes: 16 bytes with the kind, a zero byte, the link count and six pointers.
use Rattle.std.specs.Prelude.{◌≡◌, ℕ, ◌+◌, ◌*◌, ◌<◌, Bool, true, ◌&&◌, List, [], ◌∷◌, ◌==◌, slice_index}
use Rattle.blocks.specs.Bytes.{word, low, high}

-- kind 1 is a file; an absent inode has kind 0
abbrev pub present : List ℕ → Bool
present inode = slice_index inode 0 == 1

-- a file's inode, with its zero byte
abbrev pub is_file : List ℕ → Bool
is_file inode = slice_index inode 0 == 1 && slice_index inode 1 == 0

-- the link count
abbrev pub links : List ℕ → ℕ
links inode = word inode 2

-- pointer k, from 0 to 5; 0 means no block
abbrev pub pointer : List ℕ → ℕ → ℕ
pointer inode k = word inode (4 + 2 * k)

-- the inode of a file with n links and the pointers p
abbrev pub inode_of : ℕ → List ℕ → List ℕ
inode_of n p =
    1 ∷ 0 ∷ low n ∷ high n
    ∷ low (slice_index p 0) ∷ high (slice_index p 0) ∷ low (slice_index p 1) ∷ high (slice_index p 1) ∷ low (slice_index p 2) ∷ high (slice_index p 2)
    ∷ low (slice_index p 3) ∷ high (slice_index p 3) ∷ low (slice_index p 4) ∷ high (slice_index p 4) ∷ low (slice_index p 5) ∷ high (slice_index p 5) ∷ []

-- these bytes are the inode of a file with n links and the pointers p, and they tell so
pub record IsFile (n : ℕ) (p bytes : List ℕ) : Type 0 where
  pub value : bytes ≡ inode_of n p
  pub kind : is_file bytes ≡ true
  pub links : links bytes ≡ n
  pub pointers : (k : ℕ) → k < 6 → pointer bytes k ≡ slice_index p k
