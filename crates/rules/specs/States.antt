-- The state of a store.
use Rattle.std.specs.Prelude.{ℕ, Bool, false, List, slice_index_or}
use Rattle.layout.specs.declared.geometry.Shape.{Shape}
use Rattle.device.specs.Meaning.{Meaning}
use Rattle.rules.specs.Views.{View}

-- the state of an attached store
pub record State : Type 0 where
  -- the geometry of its card
  pub shape : Shape
  -- what the host sees
  pub view : View
  -- block by block: whether a write of it, sent since the block was given out, has landed
  pub filled : List Bool
  -- the medium, and the writes that wait
  pub device : Meaning

-- a store is attached, or all it has is its device
pub data Store : Type 0 where
  unattached : Meaning → Store
  attached : State → Store

-- block b is filled
abbrev pub is_filled : State → ℕ → Bool
is_filled st b = slice_index_or st.filled b false

-- the state with another view
abbrev pub with_view : State → View → State
with_view st v = record { shape = st.shape; view = v; filled = st.filled; device = st.device }
