-- Coherent states, and the law that an accepted attach begins in one, and every change that may be made and every call keeps it.
use Rattle.std.specs.Prelude.{◌≡◌, ℕ, ◌<◌, true, false, List, Ok}
use Rattle.layout.specs.declared.geometry.Shape.{Shape}
use Rattle.layout.specs.Shapes.{slots}
use Rattle.layout.specs.Entries.{empty, target}
use Rattle.device.specs.Meaning.{Meaning, Kept}
use Rattle.rules.specs.Views.{View, slot_of, has_file}
use Rattle.rules.specs.States.{State, unattached, attached}
use Rattle.rules.specs.Changes.{Change, changed}
use Rattle.rules.specs.Calls.{next}
use Rattle.rules.specs.Acts.{Call, act}
use Rattle.rules.specs.Allowed.{Allowed}
use Rattle.rules.specs.Attach.{attach}
use Rattle.rules.specs.Formed.{FormedView, Formed}

-- what a slot holds is empty, or it leads to a file
abbrev pub LeadsToFile : View → List ℕ → Type 0
LeadsToFile v e = empty e ≡ false → has_file v (target e) ≡ true

-- a view of a card of this geometry in which every name leads to a file
pub record CoherentView (g : Shape) (v : View) : Type 0 where
  pub formed : FormedView g v
  pub led : (s : ℕ) → s < slots g → LeadsToFile v (slot_of v s)

-- a formed state in which every name leads to a file
pub record Coherent (st : State) : Type 0 where
  pub formed : Formed st
  pub led : (s : ℕ) → s < slots st.shape → LeadsToFile st.view (slot_of st.view s)

-- what begins and stays coherent
pub record StatesStayCoherent : Type 0 where
  -- a change that may be made leaves a coherent state coherent
  pub change : (st : State) (c : Change) → Coherent st → Allowed st c → Coherent (changed st c)
  -- and so does every call, accepted or refused
  pub call : (st : State) (c : Call) → Coherent st → Coherent (next st (act st c))
  -- a store that attaches begins in a coherent state, on every device that keeps what devices keep
  pub attach : (d : Meaning) (told : List ℕ) (st : State) → Kept d
      → attach (unattached d) told ≡ record { answer = Ok tt; after = attached st } → Coherent st
