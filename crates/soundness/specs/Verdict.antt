-- The verdict on a medium: sound, or the lowest number that applies, where it first applies.
use Rattle.std.specs.Prelude.{ℕ, ◌+◌, ◌*◌, ◌/◌, ◌%◌, Bool, cond, not, ◌&&◌, Some, None, Option, ◌==◌, slice_index}
use Rattle.layout.specs.declared.refusal.Place.{Place}
use Rattle.layout.specs.declared.refusal.Refusal.{Refusal}
use Rattle.layout.specs.declared.refusal.Refusal.TheVariants.{BadSize, BadMagic, BadVersion, BadHead, BadMap, BadInode, BadPointer, BadSlot, NameTwice, FewLinks}
use Rattle.finite.specs.Finite.{lowest}
use Rattle.blocks.specs.Bytes.{Block, word}
use Rattle.layout.specs.Heads.{head_shape}
use Rattle.layout.specs.declared.geometry.Shape.{Shape}
use Rattle.layout.specs.Shapes.{good_blocks, good_inodes, good_directory, first_data, slots, inode_block, slot_block}
use Rattle.soundness.specs.Media.{Medium, block}
use Rattle.soundness.specs.Faults.{bit_fault, inode_fault, pointer_fault, slot_fault, name_fault, link_fault}

-- byte k of block b
abbrev pub at : ℕ → ℕ → Place
at b k = record { block = b; byte = k }

-- the first of two refusals, if there is any
abbrev pub first : Option Refusal → Option Refusal → Option Refusal
first (Some r) later = Some r
first None later = later

-- a refusal, unless the test holds
abbrev pub unless : Bool → Refusal → Option Refusal
unless test r = cond test None (Some r)

-- a refusal at the place of what was found, if anything was
abbrev pub found : (Place → Refusal) → (ℕ → Place) → Option ℕ → Option Refusal
found refuse place (Some k) = Some (refuse (place k))
found refuse place None = None

-- the letters FST
abbrev pub lettered : Block → Bool
lettered head = slice_index head 0 == 70 && (slice_index head 1 == 83 && slice_index head 2 == 84)

-- byte 12 + k of a head, which must be zero, is not
abbrev pub filling_fault : Block → ℕ → Bool
filling_fault head k = not (slice_index head (12 + k) == 0)

-- what a head tells of the geometry, field by field in the order of their bytes, on a device of this size
abbrev pub geometry_verdict : Block → ℕ → Option Refusal
geometry_verdict head size =
    first (unless (word head 6 == size) (BadHead (at 0 6)))
    (first (unless (good_inodes (word head 8)) (BadHead (at 0 8)))
    (first (unless (good_directory (word head 6) (word head 8) (word head 10)) (BadHead (at 0 10)))
    (found BadHead (λ k. at 0 (12 + k)) (lowest 52 (filling_fault head)))))

-- what block 0 tells, on a device of this size
abbrev pub head_verdict : Block → ℕ → Option Refusal
head_verdict head size =
    first (unless (good_blocks size) (BadSize (at 0 0)))
    (first (unless (lettered head) (BadMagic (at 0 0)))
    (first (unless (slice_index head 3 == 0) (BadMagic (at 0 3)))
    (first (unless (word head 4 == 1) (BadVersion (at 0 4)))
    (geometry_verdict head size))))

-- the first wrong bit, of the inode map before the block map; all 512 bits of each are looked at
abbrev pub map_verdict : Shape → Medium → Option Refusal
map_verdict g m =
    first (found BadMap (λ n. at 1 (n / 8)) (lowest 512 (bit_fault (block m 1) 1 g.inodes)))
    (found BadMap (λ n. at 2 (n / 8)) (lowest 512 (bit_fault (block m 2) (first_data g) g.blocks)))

-- the first inode at fault
abbrev pub inode_verdict : Shape → Medium → Option Refusal
inode_verdict g m = found BadInode (λ i. at (inode_block i) (16 * (i % 4))) (lowest g.inodes (inode_fault m))

-- where pointer q of the card stands
abbrev pub pointer_place : ℕ → Place
pointer_place q = at (inode_block (q / 6)) (16 * (q / 6 % 4) + 4 + 2 * (q % 6))

-- the first pointer at fault, by inode and then by part
abbrev pub pointer_verdict : Shape → Medium → Option Refusal
pointer_verdict g m = found BadPointer pointer_place (lowest (6 * g.inodes) (pointer_fault g m))

-- where slot s stands
abbrev pub slot_place : Shape → ℕ → Place
slot_place g s = at (slot_block g s) (16 * (s % 4))

-- the first slot that is neither empty nor a name of a present inode
abbrev pub slot_verdict : Shape → Medium → Option Refusal
slot_verdict g m = found BadSlot (slot_place g) (lowest (slots g) (slot_fault g m))

-- the first slot whose name an earlier one has
abbrev pub name_verdict : Shape → Medium → Option Refusal
name_verdict g m = found NameTwice (slot_place g) (lowest (slots g) (name_fault g m))

-- the first link count that is too low
abbrev pub link_verdict : Shape → Medium → Option Refusal
link_verdict g m = found FewLinks (λ i. at (inode_block i) (16 * (i % 4) + 2)) (lowest g.inodes (link_fault g m))

-- what is told of the blocks after the head
abbrev pub body_verdict : Shape → Medium → Option Refusal
body_verdict g m =
    first (map_verdict g m)
    (first (inode_verdict g m)
    (first (pointer_verdict g m)
    (first (slot_verdict g m)
    (first (name_verdict g m)
    (link_verdict g m)))))

-- what is told of a medium of a device of this size; nothing where it is sound
abbrev pub verdict : Medium → ℕ → Option Refusal
verdict m size = first (head_verdict (block m 0) size) (body_verdict (head_shape (block m 0)) m)
