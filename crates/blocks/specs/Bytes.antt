-- Blocks, and the numbers in a run of bytes.
use Rattle.std.specs.Prelude.{ℕ, ◌+◌, ◌*◌, ◌/◌, ◌%◌, Bool, List, take, drop, nat_eq, slice_index}
use Rattle.finite.specs.Finite.{every, table}

-- a block is a list of 64 bytes
abbrev pub Block : Type 0
Block = List ℕ

-- the 16-bit number at a place, low byte first
abbrev pub word : List ℕ → ℕ → ℕ
word bytes at = slice_index bytes at + 256 * slice_index bytes (at + 1)

-- the low byte of a 16-bit number
abbrev pub low : ℕ → ℕ
low n = n % 256

-- its high byte
abbrev pub high : ℕ → ℕ
high n = n / 256

-- the first n bytes are zero
abbrev pub zeros : ℕ → List ℕ → Bool
zeros n bytes = every n (λ k. nat_eq (slice_index bytes k) 0)

-- the n bytes from a on
abbrev pub part : List ℕ → ℕ → ℕ → List ℕ
part bytes a n = take n (drop a bytes)

-- a quarter of a block, 16 bytes: an inode or a slot
abbrev pub quarter : Block → ℕ → List ℕ
quarter block k = part block (16 * k) 16

-- the block with these four quarters
unfoldable pub joined : (ℕ → List ℕ) → Block
joined quarters = table 64 (λ n. slice_index (quarters (n / 16)) (n % 16))

-- a run of bytes as a whole block: its first 64, with zeros for those that it lacks
unfoldable pub whole : List ℕ → Block
whole bytes = table 64 (λ n. slice_index bytes n)
