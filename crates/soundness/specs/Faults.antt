-- The tests of a medium: each says whether one bit, inode, pointer or slot is at fault.
use Rattle.std.specs.Prelude.{ℕ, ◌/◌, ◌%◌, Bool, cond, not, ◌&&◌, ◌||◌, ◌==◌, nat_eq, nat_le, nat_lt}
use Rattle.std.specs.Str.{bytes_eq}
use Rattle.finite.specs.Finite.{exists, count}
use Rattle.blocks.specs.Bytes.{Block, zeros}
use Rattle.blocks.specs.Bits.{bit}
use Rattle.layout.specs.declared.geometry.Shape.{Shape}
use Rattle.layout.specs.Shapes.{first_data, slots}
use Rattle.layout.specs.Inodes.{present, is_file, links, pointer}
use Rattle.layout.specs.Entries.{empty, target, title}
use Rattle.layout.specs.Names.{well_formed}
use Rattle.soundness.specs.Media.{Medium, block, inode, slot, names}

-- bit n of a map is at fault: it must be set below `used`, and clear from `end` on
abbrev pub bit_fault : Block → ℕ → ℕ → ℕ → Bool
bit_fault map used end n = cond (nat_lt n used) (not (bit map n)) (nat_le end n && bit map n)

-- an inode that is not all zeros must be a file's, not inode 0, and marked
abbrev pub inode_fault : Medium → ℕ → Bool
inode_fault m i = not (zeros 16 (inode m i)) && not (is_file (inode m i) && (nat_lt 0 i && bit (block m 1) i))

-- pointer q of the card: the (q % 6)th of inode q / 6
abbrev pub pointer_at : Medium → ℕ → ℕ
pointer_at m q = pointer (inode m (q / 6)) (q % 6)

-- b is a block of the data area, and marked
abbrev pub marked_data : Shape → Medium → ℕ → Bool
marked_data g m b = (nat_le (first_data g) b && nat_lt b g.blocks) && bit (block m 2) b

-- a pointer that is not 0 must lead to a marked block of the data area, to which no earlier one leads
abbrev pub pointer_fault : Shape → Medium → ℕ → Bool
pointer_fault g m q =
    not (pointer_at m q == 0) && (not (marked_data g m (pointer_at m q)) || exists q (λ r. nat_eq (pointer_at m r) (pointer_at m q)))

-- the entry in slot s leads a well-formed name to a present inode
abbrev pub leads : Shape → Medium → ℕ → Bool
leads g m s = well_formed (title (slot g m s)) && (nat_lt (target (slot g m s)) g.inodes && present (inode m (target (slot g m s))))

-- a slot must be empty, or its entry must lead
abbrev pub slot_fault : Shape → Medium → ℕ → Bool
slot_fault g m s = not (empty (slot g m s)) && not (leads g m s)

-- slots s and t hold one name
abbrev pub same_name : Shape → Medium → ℕ → ℕ → Bool
same_name g m s t = not (empty (slot g m t)) && bytes_eq (title (slot g m s)) (title (slot g m t))

-- slot s holds a name that an earlier one holds
abbrev pub name_fault : Shape → Medium → ℕ → Bool
name_fault g m s = not (empty (slot g m s)) && exists s (same_name g m s)

-- the link count of inode i is below the number of slots that name it
abbrev pub link_fault : Shape → Medium → ℕ → Bool
link_fault g m i = nat_lt (links (inode m i)) (count (slots g) (names g m i))
