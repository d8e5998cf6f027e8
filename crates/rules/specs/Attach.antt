-- Attach, the refusal of every other call before it, leave and end.
use Rattle.std.specs.Prelude.{ℕ, Bool, true, cond, ◌&&◌, ◌||◌, List, [], ◌∷◌, replicate, Some, None, Ok, Err, Option, Result, nat_lt}
use Rattle.finite.specs.Finite.{exists, count, table}
use Rattle.blocks.specs.Bytes.{Block}
use Rattle.layout.specs.declared.refusal.Refusal.{Refusal}
use Rattle.layout.specs.declared.refusal.Refusal.TheVariants.{NotAttached, AlreadyAttached}
use Rattle.layout.specs.declared.geometry.Shape.{Shape}
use Rattle.layout.specs.Shapes.{first_data, slots}
use Rattle.layout.specs.Heads.{head_shape}
use Rattle.layout.specs.Inodes.{present, pointer}
use Rattle.soundness.specs.Media.{Medium, block, inode, slot, names}
use Rattle.soundness.specs.Verdict.{verdict}
use Rattle.device.specs.Meaning.{Meaning, waits}
use Rattle.rules.specs.Views.{View}
use Rattle.rules.specs.States.{State, Store, unattached, attached}
use Rattle.rules.specs.Images.{due}
use Rattle.rules.specs.Changes.{landing}
use Rattle.rules.specs.Calls.{Outcome, answer, next}

-- what a call on a store comes to
pub record Reply (A : Type 0) : Type 0 where
  pub answer : Result A Refusal
  pub after : Store

-- a call on a store: before the attach it is refused, ahead of all its own checks
abbrev pub call : {A : Type 0} → (State → Outcome A) → Store → Reply A
call f (unattached d) = record { answer = Err NotAttached; after = unattached d }
call f (attached st) = record { answer = answer (f st); after = attached (next st (f st)) }

-- a question to a store, which changes nothing: get and look
abbrev pub ask : {A : Type 0} → (State → Result A Refusal) → Store → Result A Refusal
ask f (unattached d) = Err NotAttached
ask f (attached st) = f st

-- the file at inode i of a medium: a present inode that no slot names is not one
unfoldable pub file_on : Shape → Medium → ℕ → Option (List ℕ)
file_on g m i = cond (present (inode m i) && exists (slots g) (names g m i)) (Some (table 6 (pointer (inode m i)))) None

-- the bytes of block b of a medium, if it is a data block
unfoldable pub bytes_on : Shape → Medium → ℕ → Block
bytes_on g m b = cond (nat_lt b (first_data g)) (replicate 64 0) (block m b)

-- the view that a medium holds
unfoldable pub view_on : Shape → Medium → View
view_on g m = record { slots = table (slots g) (slot g m); files = table g.inodes (file_on g m); bytes = table g.blocks (bytes_on g m) }

-- the state after an attach: the medium's view, every block confirmed as it lies and none under way, and all of them filled
unfoldable pub started : Meaning → State
started d =
    let g = head_shape (block d.medium 0) in
    record { shape = g; view = view_on g d.medium; filled = replicate g.blocks true; device = d }

-- the device after the writes of these blocks have landed, in this order
unfoldable pub landings : Meaning → List ℕ → Meaning
landings d [] = d
landings d (b ∷ bs) = landings (landing d b) bs

-- a device on which nothing waits is judged
abbrev pub judged : Meaning → Option Refusal → Reply (Unit {0})
judged d None = record { answer = Ok tt; after = attached (started d) }
judged d (Some r) = record { answer = Err r; after = unattached d }

-- attach: the waiting writes land, in the order of the blocks that the device tells, and then the medium is judged
unfoldable pub attach : Store → List ℕ → Reply (Unit {0})
attach (attached st) told = record { answer = Err AlreadyAttached; after = attached st }
attach (unattached d) told = let e = landings d told in judged e (verdict e.medium e.size)

-- leave changes nothing: from then on only write, collect, get, look and end can be called
abbrev pub leave : Store → Store
leave s = s

-- block b is not yet on the medium as the view has it: it is due, or under way
unfoldable pub outstanding : State → ℕ → Bool
outstanding st b = due st b || waits st.device.waiting b

-- end: how many blocks are outstanding, and the device back
unfoldable pub end : Store → ℕ × Meaning
end (unattached d) = (0, d)
end (attached st) = (count st.shape.blocks (outstanding st), st.device)
