-- A block that is written into the image of a device.
use Rattle.std.proofs.Common.{◌≡◌, ℕ, ◌/◌, ◌<◌, min, true, List, length, get_or, ap, ◌∙◌, arith}
use Rattle.blocks.specs.Images.{image_blocks, with_block}
use Rattle.blocks.proofs.Images.{length-with_block, image_blocks_with}
use Rattle.device.specs.Meaning.{inside, landed}
use Rattle.device.specs.declared.types.Write.{Write}
use Rattle.device.proofs.Waits.{inside_at}
use Rattle.bottoms.specs.Used.{used, blocks_of}

-- the write at any place is of a block of the device
pub inside_taken : (n : ℕ) (ws : List Write) (i : ℕ) (w : Write) → inside n ws ≡ true → i < length ws → w ≡ get_or ws i w → w.block < n
inside_taken n ws i w h l e = let at = inside_at n ws i w h l in omega (arith, at, ap (λ x. x.block) e)

-- the image with the block written uses as many blocks, and its blocks are those with the write landed
module _ (image last : List ℕ) (w : Write) (e : last ≡ with_block image w.block w.bytes) where
  used_same : used last ≡ used image
  used_same = ap (λ n. min (n / 64) 256) (ap length e ∙ length-with_block image w.block w.bytes)

  pub blocks_landed : w.block < used image → blocks_of last ≡ landed (blocks_of image) w
  blocks_landed h =
      (λ i. image_blocks (used_same i) (e i)) ∙ image_blocks_with image w.block w.bytes (used image) h (omega arith) w.whole
