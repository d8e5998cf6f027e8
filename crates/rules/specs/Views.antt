-- The view: the directory, the files and their bytes, as the host sees them.
use Rattle.std.specs.Prelude.{ℕ, Bool, List, [], replicate, is_some, None, Option, slice_index, slice_index_or, slice_set}
use Rattle.std.specs.Option.{unwrap_or}
use Rattle.blocks.specs.Bytes.{Block}

pub record View : Type 0 where
  -- slot by slot, the 16 bytes of an entry, or zeros
  pub slots : List (List ℕ)
  -- inode by inode, the six pointers of the file that has it, if one has
  pub files : List (Option (List ℕ))
  -- block by block, the bytes of the part that it holds
  pub bytes : List Block

-- an empty slot
abbrev pub no_entry : List ℕ
no_entry = replicate 16 0

-- what slot s holds
abbrev pub slot_of : View → ℕ → List ℕ
slot_of v s = slice_index_or v.slots s no_entry

-- some file has inode i
abbrev pub has_file : View → ℕ → Bool
has_file v i = is_some (slice_index_or v.files i None)

-- the pointers of file i, part by part
abbrev pub pointers_of : View → ℕ → List ℕ
pointers_of v i = unwrap_or (slice_index_or v.files i None) []

-- the block of part k of file i; 0 for none
abbrev pub part_of : View → ℕ → ℕ → ℕ
part_of v i k = slice_index (pointers_of v i) k

-- the bytes of block b
abbrev pub bytes_of : View → ℕ → Block
bytes_of v b = slice_index_or v.bytes b []

-- the view with e in slot s
abbrev pub with_slot : View → ℕ → List ℕ → View
with_slot v s e = record { slots = slice_set v.slots s e; files = v.files; bytes = v.bytes }

-- the view with another file, or none, at inode i
abbrev pub with_file : View → ℕ → Option (List ℕ) → View
with_file v i f = record { slots = v.slots; files = slice_set v.files i f; bytes = v.bytes }

-- the view with other bytes in block b
abbrev pub with_bytes : View → ℕ → Block → View
with_bytes v b x = record { slots = v.slots; files = v.files; bytes = slice_set v.bytes b x }
