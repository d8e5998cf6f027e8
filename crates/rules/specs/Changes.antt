-- The primitive changes of a store: every call is a list of these.
use Rattle.std.specs.Prelude.{ℕ, true, false, cond, List, [], ◌∷◌, replicate, Some, None, Ok, ◌==◌, slice_set}
use Rattle.blocks.specs.Bytes.{Block}
use Rattle.layout.specs.declared.geometry.Shape.{Shape}
use Rattle.layout.specs.Entries.{target, entry_of}
use Rattle.layout.specs.Names.{padded}
use Rattle.device.specs.declared.types.Write.{Write}
use Rattle.device.specs.Meaning.{Meaning, submitted}
use Rattle.rules.specs.Views.{View, no_entry, slot_of, pointers_of, part_of, with_slot, with_file, with_bytes}
use Rattle.rules.specs.Standing.{newest}
use Rattle.rules.specs.States.{State, with_view}
use Rattle.rules.specs.References.{view_leads}
use Rattle.rules.specs.Kinds.{entries}
use Rattle.rules.specs.Images.{image, image_long}

pub data Change : Type 0 where
  -- the image of block b joins the waiting writes
  submit : (b : ℕ) → Change
  -- the waiting write of block b lands
  land : (b : ℕ) → Change
  -- file i begins, without parts, with its first name in slot s
  create : (i s : ℕ) (name : List ℕ) → Change
  -- file i gets one more name, in slot s
  add_name : (i s : ℕ) (name : List ℕ) → Change
  -- the name in slot s goes, and with its last name the file
  drop_name : (s : ℕ) → Change
  -- part k of file i gets block b, with these bytes
  give : (i k b : ℕ) (bytes : Block) → Change
  -- part k of file i, which has a block, gets other bytes there
  overwrite : (i k : ℕ) (bytes : Block) → Change
  -- part k of file i loses its block
  take : (i k : ℕ) → Change

-- the write of block b that is sent now
abbrev pub outgoing : State → ℕ → Write
outgoing st b = record { block = b; bytes = image st b; whole = image_long st b }

-- the writes that wait when that of block b is gone
unfoldable pub without : List Write → ℕ → List Write
without [] b = []
without (w ∷ ws) b = cond (w.block == b) ws (w ∷ without ws b)

-- the device once the waiting write of block b has landed
unfoldable pub landing : Meaning → ℕ → Meaning
landing d b = record { medium = slice_set d.medium b (newest d b); waiting = without d.waiting b; size = d.size; depth = d.depth }

-- the view with file i, which has no parts, and its name in slot s
unfoldable pub created : View → ℕ → ℕ → List ℕ → View
created v i s name = with_file (with_slot v s (entry_of i (padded name))) i (Some (replicate 6 0))

-- the view without file i, if no slot names it
unfoldable pub kept_if_named : Shape → View → ℕ → View
kept_if_named g v i = cond (view_leads (entries g) v i) v (with_file v i None)

-- the view with slot s emptied
unfoldable pub unnamed : Shape → View → ℕ → View
unnamed g v s = kept_if_named g (with_slot v s no_entry) (target (slot_of v s))

-- the view with block b for part k of file i, or with none where b is 0
abbrev pub with_part : View → ℕ → ℕ → ℕ → View
with_part v i k b = with_file v i (Some (slice_set (pointers_of v i) k b))

-- the state after one change
unfoldable pub changed : State → Change → State
changed st (submit b) = record { shape = st.shape; view = st.view; filled = st.filled; device = submitted (Ok tt) st.device (outgoing st b) }
changed st (land b) = record { shape = st.shape; view = st.view; filled = slice_set st.filled b true; device = landing st.device b }
changed st (create i s name) = with_view st (created st.view i s name)
changed st (add_name i s name) = with_view st (with_slot st.view s (entry_of i (padded name)))
changed st (drop_name s) = with_view st (unnamed st.shape st.view s)
changed st (give i k b bytes) =
    record {
      shape = st.shape;
      view = with_bytes (with_part st.view i k b) b bytes;
      filled = slice_set st.filled b false;
      device = st.device;
    }
changed st (overwrite i k bytes) = with_view st (with_bytes st.view (part_of st.view i k) bytes)
changed st (take i k) = with_view st (with_part st.view i k 0)

-- the state after a list of changes, the first of them first
unfoldable pub after : State → List Change → State
after st [] = st
after st (c ∷ cs) = after (changed st c) cs
