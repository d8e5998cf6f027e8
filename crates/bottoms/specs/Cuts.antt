-- What a power cut leaves of an image: bit k of the mask says whether the waiting write at place k lands.
use Rattle.std.specs.Prelude.{ℕ, ◌/◌, ◌%◌, cond, List, [], ◌∷◌, ◌==◌}
use Rattle.blocks.specs.Images.{with_block}
use Rattle.device.specs.declared.types.Write.{Write}

-- the image into which those have been written whose bit is set
abbrev pub cut_image : ℕ → List Write → List ℕ → List ℕ
cut_image mask [] image = image
cut_image mask (w ∷ ws) image = cut_image (mask / 2) ws (cond (mask % 2 == 1) (with_block image w.block w.bytes) image)
