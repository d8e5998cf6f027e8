-- The head of a card: the letters FST, a zero byte, the version, the geometry, and zeros.
use Rattle.std.specs.Prelude.{◌∷◌, replicate}
use Rattle.blocks.specs.Bytes.{Block, low, high, word}
use Rattle.layout.specs.declared.geometry.Shape.{Shape}

-- the head of a card of version 1
abbrev pub head_of : Shape → Block
head_of g =
    70 ∷ 83 ∷ 84 ∷ 0 ∷ 1 ∷ 0 ∷ low g.blocks ∷ high g.blocks ∷ low g.inodes ∷ high g.inodes ∷ low g.directory ∷ high g.directory
    ∷ replicate 52 0

-- the geometry that a head tells
abbrev pub head_shape : Block → Shape
head_shape head = record { blocks = word head 6; inodes = word head 8; directory = word head 10 }
