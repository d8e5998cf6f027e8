-- Names: 1 to 14 bytes from 21 to 7E hexadecimal, kept as 14 bytes filled up with zeros.
use Rattle.std.specs.Prelude.{◌≡◌, ℕ, ◌+◌, ◌<◌, ◌≤◌, Bool, true, not, ◌&&◌, ◌||◌, List, length, ◌==◌, nat_le, slice_index}
use Rattle.finite.specs.Finite.{every, table}

-- a byte that a name may hold
abbrev pub printable : ℕ → Bool
printable c = nat_le 33 c && nat_le c 126

-- what a host may give as a name
abbrev pub proper : List ℕ → Bool
proper name = (nat_le 1 (length name) && nat_le (length name) 14) && every (length name) (λ k. printable (slice_index name k))

-- a name as it is kept
unfoldable pub padded : List ℕ → List ℕ
padded name = table 14 (λ k. slice_index name k)

-- the byte at k + 1 is the end, or a byte of a name that goes on at k
abbrev pub goes_on : List ℕ → ℕ → Bool
goes_on title k = slice_index title (k + 1) == 0 || (printable (slice_index title (k + 1)) && not (slice_index title k == 0))

-- 14 kept bytes are a name: it begins, goes on, and ends once
abbrev pub well_formed : List ℕ → Bool
well_formed title = printable (slice_index title 0) && every 13 (goes_on title)

-- the same in plain words: some 1 to 14 bytes of a name, and then zeros
pub record Named (title : List ℕ) : Type 0 where
  pub size : ℕ
  pub some : 1 ≤ size
  pub few : size ≤ 14
  pub bytes : (k : ℕ) → k < size → printable (slice_index title k) ≡ true
  pub filled : (k : ℕ) → size ≤ k → k < 14 → slice_index title k ≡ 0
