-- The image of each block: what a write of it sends.
use Rattle.std.specs.Prelude.{◌≡◌, ℕ, ◌+◌, ◌-◌, ◌*◌, Bool, cond, not, ◌&&◌, ◌||◌, List, length, replicate, ◌==◌, nat_le, nat_lt}
use Rattle.std.specs.Str.{bytes_eq}
use Rattle.finite.specs.Finite.{exists, table}
use Rattle.finite.proofs.Tables.{length-table}
use Rattle.blocks.specs.Bytes.{Block, joined, whole}
use Rattle.blocks.specs.Bits.{bit, packed}
use Rattle.layout.specs.declared.region.Region.{Region}
use Rattle.layout.specs.declared.region.Region.TheVariants.{Head, InodeMap, BlockMap, Inodes, Directory, Data, Outside}
use Rattle.layout.specs.Shapes.{first_directory, first_data, inode_block, slots}
use Rattle.layout.specs.Regions.{region}
use Rattle.layout.specs.Inodes.{inode_of}
use Rattle.rules.specs.Views.{has_file, bytes_of}
use Rattle.rules.specs.Standing.{confirmed, firm}
use Rattle.rules.specs.States.{State, is_filled}
use Rattle.rules.specs.References.{view_leads, stands_at, shown_at}
use Rattle.rules.specs.Kinds.{entries, pointers, inode_in, reach, claimed, in_use, pointer_goes, pointer_ready, entry_goes, entry_ready}

-- what the inode map marks: inode 0, and every inode in use
unfoldable pub inode_marked : State → ℕ → Bool
inode_marked st i = i == 0 || (nat_lt i st.shape.inodes && in_use st i)

-- what the block map marks: every block before the data area, and every claimed one
unfoldable pub block_marked : State → ℕ → Bool
block_marked st b = nat_lt b (first_data st.shape) || (nat_lt b st.shape.blocks && claimed st b)

-- the six pointers of inode i, by the reference rule
unfoldable pub image_pointers : State → ℕ → List ℕ
image_pointers st i = table 6 (λ k. shown_at (pointers st.shape) st pointer_goes (pointer_ready st) (6 * i + k))

-- inode i of a file that the view has: with its reach as link count once every standing copy of the inode map marks it, and until then as confirmed
unfoldable pub image_file : State → ℕ → List ℕ
image_file st i =
    cond (firm st.device 1 (λ c. bit c i))
    (inode_of (reach st i) (image_pointers st i))
    (inode_in (confirmed st.device (inode_block i)) i)

-- some standing slot names inode i
unfoldable pub still_named : State → ℕ → Bool
still_named st i = exists (slots st.shape) (stands_at (entries st.shape) st i)

-- inode i without a file in the view: as confirmed while a standing slot names it, and then zeros
unfoldable pub image_absent : State → ℕ → List ℕ
image_absent st i = cond (still_named st i) (inode_in (confirmed st.device (inode_block i)) i) (replicate 16 0)

-- inode i
unfoldable pub image_inode : State → ℕ → List ℕ
image_inode st i = cond (has_file st.view i) (image_file st i) (image_absent st i)

-- slot s, by the reference rule
unfoldable pub image_slot : State → ℕ → List ℕ
image_slot st s = shown_at (entries st.shape) st (entry_goes st s) (entry_ready st) s

-- a data block: the view's bytes if the view has a pointer to it
unfoldable pub image_data : State → ℕ → Block
image_data st b = cond (view_leads (pointers st.shape) st.view b) (bytes_of st.view b) (confirmed st.device b)

-- block b, by the region that it lies in
unfoldable pub image_in : State → ℕ → Region → Block
image_in st b Head = confirmed st.device b
image_in st b InodeMap = packed (inode_marked st)
image_in st b BlockMap = packed (block_marked st)
image_in st b Inodes = joined (λ k. image_inode st (4 * (b - 3) + k))
image_in st b Directory = joined (λ k. image_slot st (4 * (b - first_directory st.shape) + k))
image_in st b Data = image_data st b
image_in st b Outside = confirmed st.device b

-- the image of block b
unfoldable pub image : State → ℕ → Block
image st b = whole (image_in st b (region st.shape b))

-- an image is 64 bytes, so it can be sent
pub image_long : (st : State) (b : ℕ) → length (image st b) ≡ 64
unfolding image whole
image_long st b = length-table 64 _

-- block b holds a part in the view, and no write of it that was sent since it was given out has landed
unfoldable pub unfilled : State → ℕ → Bool
unfilled st b = nat_le (first_data st.shape) b && (view_leads (pointers st.shape) st.view b && not (is_filled st b))

-- block b is due for a write: its image is not what is confirmed, or it is unfilled
unfoldable pub due : State → ℕ → Bool
due st b = not (bytes_eq (image st b) (confirmed st.device b)) || unfilled st b
