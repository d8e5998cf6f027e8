-- What an image means as the medium of a device.
use Rattle.std.specs.Prelude.{ℕ, ◌/◌, min, List, [], length}
use Rattle.blocks.specs.Bytes.{Block}
use Rattle.blocks.specs.Images.{image_blocks}
use Rattle.device.specs.Meaning.{Meaning}
use Rattle.device.specs.declared.types.Write.{Write}

-- how many blocks of an image are used: its whole ones, up to 256
abbrev pub used : List ℕ → ℕ
used image = min (length image / 64) 256

-- the used blocks of an image
abbrev pub blocks_of : List ℕ → List Block
blocks_of image = image_blocks (used image) image

-- the first n blocks of an image, with these writes waiting
abbrev pub over : ℕ → ℕ → List ℕ → List Write → Meaning
over n depth image ws = record { medium = image_blocks n image; waiting = ws; size = n; depth = depth }

-- the used blocks of an image, with no write waiting
abbrev pub fresh : ℕ → List ℕ → Meaning
fresh depth image = over (used image) depth image []
