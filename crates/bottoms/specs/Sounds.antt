-- The devices that keep their medium in an image keep what every device does.
use Rattle.std.specs.Prelude.{◌≡◌, ℕ, ◌*◌, ◌/◌, ◌≤◌, min, true, List, length, Some, None, vec_items, Option, refl}
use Rattle.std.proofs.Common.{arith}
use Rattle.std.specs.Option.{option_to_list}
use Rattle.blocks.proofs.Images.{length-image_blocks, image_blocks_whole}
use Rattle.device.specs.Meaning.{Kept, apart, inside}
use Rattle.device.specs.declared.types.Write.{Write}
use Rattle.bottoms.specs.Used.{used, over}
use Rattle.bottoms.specs.Means.{straight_means, banked_means}
use Rattle.bottoms.specs.declared.banked.Banked.{Banked}
use Rattle.bottoms.specs.declared.straight.Straight.{Straight}

-- an image of n blocks or more keeps it, with writes that are apart, of its blocks, and no more than there is room for
image_kept : (n depth : ℕ) (image : List ℕ) (ws : List Write) → 64 * n ≤ length image → apart ws ≡ true → inside n ws ≡ true
    → length ws ≤ depth → 1 ≤ depth → depth ≤ 1000 → Kept (over n depth image ws)
image_kept n depth image ws l a i f o b = record {
  long = length-image_blocks n image;
  whole = image_blocks_whole n image l;
  distinct = a;
  within = i;
  few = f;
  some = o;
  bound = b;
}

-- the used blocks of a buffer are there
used_fits : (n len : ℕ) (image : List ℕ) → len ≡ length image → n ≡ min (len / 64) 256 → 64 * n ≤ length image
used_fits n len image e s = omega arith

-- one write is apart
one_apart : (o : Option Write) → apart (option_to_list o) ≡ true
one_apart None = refl
one_apart (Some w) = refl

-- one write is no more than one
one_few : (o : Option Write) → length (option_to_list o) ≤ 1
one_few None = omega arith
one_few (Some w) = omega arith

-- a device with room for one waiting write keeps it
pub straight_kept : (s : Straight) → Kept (straight_means s)
straight_kept s =
    let image = vec_items s.image.0 in
    image_kept (used image) 1 image (option_to_list s.pending) (used_fits (used image) (length image) image refl refl)
    (one_apart s.pending) s.inside (one_few s.pending) (omega arith) (omega arith)

-- eight writes at most are as many as the buffer of the writes is long
eight_few : (len : ℕ) (ws : List Write) → len ≡ length ws → len ≤ 8 → length ws ≤ 8
eight_few len ws e h = omega arith

-- a device with four channels keeps it
pub banked_kept : (s : Banked) → Kept (banked_means s)
banked_kept s =
    let image = vec_items s.image.0 in
    image_kept (used image) 8 image (vec_items s.queue) (used_fits (used image) (length image) image refl refl)
    s.distinct s.inside (eight_few s.queue.len (vec_items s.queue) s.queue.ok.0 s.fits) (omega arith) (omega arith)
