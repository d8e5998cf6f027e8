-- Images of a card: block b is bytes 64 b to 64 b + 63.
use Rattle.std.specs.Prelude.{ℕ, ◌*◌, ◌/◌, ◌%◌, cond, List, length, ◌==◌, nat_lt, slice_index}
use Rattle.finite.specs.Finite.{table}
use Rattle.blocks.specs.Bytes.{Block, part}

-- block b of an image
abbrev pub image_block : List ℕ → ℕ → Block
image_block image b = part image (64 * b) 64

-- the first n blocks of an image
unfoldable pub image_blocks : ℕ → List ℕ → List Block
image_blocks n image = table n (image_block image)

-- the image with other bytes as its block b
unfoldable pub with_block : List ℕ → ℕ → Block → List ℕ
with_block image b bytes = table (length image) (λ n. cond (n / 64 == b) (slice_index bytes (n % 64)) (slice_index image n))

-- the image with its first n blocks as f gives them
unfoldable pub with_blocks : (ℕ → Block) → ℕ → List ℕ → List ℕ
with_blocks f n image = table (length image) (λ k. cond (nat_lt k (64 * n)) (slice_index (f (k / 64)) (k % 64)) (slice_index image k))
