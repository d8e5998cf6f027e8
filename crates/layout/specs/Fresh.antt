-- An empty card.
use Rattle.std.specs.Prelude.{ℕ, cond, List, replicate, ◌==◌, nat_lt}
use Rattle.blocks.specs.Bytes.{Block}
use Rattle.blocks.specs.Bits.{packed}
use Rattle.blocks.specs.Images.{with_blocks}
use Rattle.layout.specs.Heads.{head_of}
use Rattle.layout.specs.declared.geometry.Shape.{Shape}
use Rattle.layout.specs.Shapes.{first_data}

-- block b of an empty card, before the data area: nothing is marked but inode 0 and these blocks, and there is no inode and no entry
abbrev pub fresh_block : Shape → ℕ → Block
fresh_block g b =
    cond (b == 0) (head_of g)
    (cond (b == 1) (packed (λ n. nat_lt n 1))
    (cond (b == 2) (packed (λ n. nat_lt n (first_data g)))
    (replicate 64 0)))

-- the image of an empty card: the data area's bytes are those that lay there
abbrev pub prepared : Shape → List ℕ → List ℕ
prepared g image = with_blocks (fresh_block g) (first_data g) image
