-- The two kinds of references, directory entries and block pointers: when one may go, and when its target is ready.
use Rattle.std.specs.Prelude.{ℕ, ◌*◌, ◌/◌, ◌%◌, Bool, true, not, ◌&&◌, ◌||◌, List, ◌==◌, nat_eq, nat_le, nat_lt}
use Rattle.std.specs.Str.{bytes_eq}
use Rattle.finite.specs.Finite.{exists, count}
use Rattle.blocks.specs.Bytes.{Block, quarter}
use Rattle.blocks.specs.Bits.{bit}
use Rattle.layout.specs.declared.geometry.Shape.{Shape}
use Rattle.layout.specs.Shapes.{inode_block, slot_block, slots}
use Rattle.layout.specs.Inodes.{present, links, pointer}
use Rattle.layout.specs.Entries.{empty, target}
use Rattle.rules.specs.Views.{slot_of, part_of, has_file}
use Rattle.rules.specs.Standing.{firm, stands}
use Rattle.rules.specs.States.{State, is_filled}
use Rattle.rules.specs.References.{Kind, view_leads, held, anchored}

-- inode i in a copy of its block
abbrev pub inode_in : Block → ℕ → List ℕ
inode_in c i = quarter c (i % 4)

-- directory entries: place s is slot s, and an entry leads to an inode
abbrev pub entries : Shape → Kind (List ℕ)
entries g =
    record {
      places = slots g;
      home = slot_block g;
      read = λ c s. quarter c (s % 4);
      seen = slot_of;
      same = bytes_eq;
      empty = empty;
      target = target;
    }

-- block pointers: place q is part q % 6 of inode q / 6, and a pointer leads to a block
abbrev pub pointers : Shape → Kind ℕ
pointers g =
    record {
      places = 6 * g.inodes;
      home = λ q. inode_block (q / 6);
      read = λ c q. pointer (inode_in c (q / 6)) (q % 6);
      seen = λ v q. part_of v (q / 6) (q % 6);
      same = nat_eq;
      empty = λ b. (b == 0);
      target = λ b. b;
    }

-- the reach of inode i: how many slots name it in the view or a standing copy
unfoldable pub reach : State → ℕ → ℕ
reach st i = count (slots st.shape) (held (entries st.shape) st i)

-- block b is claimed: some pointer leads to it, in the view or a standing copy
unfoldable pub claimed : State → ℕ → Bool
claimed st b = exists (pointers st.shape).places (held (pointers st.shape) st b)

-- inode i is in use: the view has a file there, or a standing copy of its block has it present
unfoldable pub in_use : State → ℕ → Bool
in_use st i = has_file st.view i || stands st.device (inode_block i) (λ c. present (inode_in c i))

-- a pointer may always go
abbrev pub pointer_goes : ℕ → Bool
pointer_goes b = true

-- a pointer's target is ready when the block is marked in every standing copy of the block map, and filled
unfoldable pub pointer_ready : State → ℕ → Bool
pointer_ready st b = nat_lt b st.shape.blocks && (firm st.device 2 (λ c. bit c b) && is_filled st b)

-- the entry in slot s may go if the view has no name for its inode, or if another slot names it in the view and in every standing copy
unfoldable pub entry_goes : State → ℕ → List ℕ → Bool
entry_goes st s e =
    not (view_leads (entries st.shape) st.view (target e))
    || exists (slots st.shape) (λ t. not (s == t) && anchored (entries st.shape) st (target e) t)

-- an entry's target is ready when every standing copy has the inode present, with a link count of at least its reach
unfoldable pub entry_ready : State → List ℕ → Bool
entry_ready st e =
    let i = target e in
    nat_lt i st.shape.inodes && firm st.device (inode_block i) (λ c. present (inode_in c i) && nat_le (reach st i) (links (inode_in c i)))
