-- Blocks put together from their quarters, and read apart again.
use Rattle.std.proofs.Common.{◌≡◌, ℕ, ◌+◌, ◌*◌, ◌/◌, ◌%◌, ◌<◌, List, length, get_or, drop, sym, ◌∙◌, arith}
use Rattle.std.proofs.lemmas.List.{length-take-le, length-drop}
use Rattle.finite.proofs.Tables.{length-table, get_or-table, table_is}
use Rattle.blocks.specs.Bytes.{Block, quarter, joined, whole}
use Rattle.blocks.proofs.Parts.{part_at}

pub length_whole : (bytes : List ℕ) → length (whole bytes) ≡ 64
unfolding whole
length_whole bytes = length-table 64 _

-- 64 bytes are a whole block as they are
pub whole_is : (bytes : List ℕ) → length bytes ≡ 64 → whole bytes ≡ bytes
unfolding whole
whole_is bytes l = sym (table_is 64 (λ n. get_or bytes n 0) bytes 0 l (λ k h. λ i. get_or bytes k 0))

pub length-joined : (f : ℕ → List ℕ) → length (joined f) ≡ 64
unfolding joined
length-joined f = length-table 64 _

pub length-quarter : (c : Block) (k : ℕ) → k < 4 → length c ≡ 64 → length (quarter c k) ≡ 16
length-quarter c k h l =
    let rest = length-drop (16 * k) c in
    length-take-le 16 (drop (16 * k) c) (omega arith)

-- a quarter of a joined block is the quarter that went in
pub quarter-joined : (f : ℕ → List ℕ) (k : ℕ) → k < 4 → length (f k) ≡ 16 → quarter (joined f) k ≡ f k
unfolding joined
quarter-joined f k h l =
    table_is 16 (λ j. get_or (f k) j 0) (quarter (joined f) k) 0 (length-quarter (joined f) k h (length-joined f)) at
    ∙ sym (table_is 16 (λ j. get_or (f k) j 0) (f k) 0 l (λ j _. λ i. get_or (f k) j 0))
  where
    at : (j : ℕ) → j < 16 → get_or (quarter (joined f) k) j 0 ≡ get_or (f k) j 0
    at j i =
        let row : (16 * k + j) / 16 ≡ k = omega arith in
        let place : (16 * k + j) % 16 ≡ j = omega arith in
        part_at (joined f) (16 * k) 16 j i ∙ get_or-table 64 (λ n. get_or (f (n / 16)) (n % 16) 0) (16 * k + j) 0 (omega arith)
        ∙ (λ e. get_or (f (row e)) (place e) 0)
