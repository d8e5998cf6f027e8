-- Maps: a block as 512 marks, bit n being bit n % 8 of byte n / 8, the least significant first.
use Rattle.std.specs.Prelude.{ℕ, ◌+◌, ◌*◌, ◌/◌, ◌%◌, ◌^◌, Bool, ◌==◌, slice_index}
use Rattle.finite.specs.Finite.{digit, table}
use Rattle.blocks.specs.Bytes.{Block}

-- whether a map marks n
abbrev pub bit : Block → ℕ → Bool
bit map n = slice_index map (n / 8) / 2 ^ (n % 8) % 2 == 1

-- byte k of the map that marks what has p
abbrev pub octet : (ℕ → Bool) → ℕ → ℕ
octet p k =
    digit (p (8 * k)) + 2 * (digit (p (8 * k + 1)) + 2 * (digit (p (8 * k + 2)) + 2 * (digit (p (8 * k + 3))
    + 2 * (digit (p (8 * k + 4)) + 2 * (digit (p (8 * k + 5)) + 2 * (digit (p (8 * k + 6)) + 2 * digit (p (8 * k + 7))))))))

-- the map that marks what has p
unfoldable pub packed : (ℕ → Bool) → Block
packed p = table 64 (octet p)
