-- A state whose parts have the sizes that its geometry says.
use Rattle.std.specs.Prelude.{◌≡◌, ℕ, ◌<◌, List, length, Some, None, slice_index_or}
use Rattle.layout.specs.declared.geometry.Shape.{Shape}
use Rattle.layout.specs.Shapes.{Good, slots}
use Rattle.device.specs.Meaning.{Kept}
use Rattle.rules.specs.Views.{View, slot_of, bytes_of}
use Rattle.rules.specs.States.{State}

-- a view of a card of this geometry
pub record FormedView (g : Shape) (v : View) : Type 0 where
  pub slots_long : length v.slots ≡ slots g
  pub slot_long : (s : ℕ) → s < slots g → length (slot_of v s) ≡ 16
  pub files_long : length v.files ≡ g.inodes
  pub six_parts : (i : ℕ) (p : List ℕ) → slice_index_or v.files i None ≡ Some p → length p ≡ 6
  pub bytes_long : length v.bytes ≡ g.blocks
  pub part_long : (b : ℕ) → b < g.blocks → length (bytes_of v b) ≡ 64

-- a state over a card of its geometry, on a device that keeps what devices keep
pub record Formed (st : State) : Type 0 where
  pub good : Good st.shape
  pub view : FormedView st.shape st.view
  pub filled_long : length st.filled ≡ st.shape.blocks
  pub kept : Kept st.device
  pub sized : st.device.size ≡ st.shape.blocks
