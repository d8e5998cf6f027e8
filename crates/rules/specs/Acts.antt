-- The calls that change a store, as values, so that a run is a list of them.
use Rattle.std.specs.Prelude.{ℕ, List, Ok, Err}
use Rattle.rules.specs.States.{State}
use Rattle.rules.specs.Calls.{Outcome, make, link, rename, remove, put, trim, write, collect}

pub data Call : Type 0 where
  Make : (name : List ℕ) → Call
  Link : (old new : List ℕ) → Call
  Rename : (old new : List ℕ) → Call
  Remove : (name : List ℕ) → Call
  Put : (name : List ℕ) (part : ℕ) (bytes : List ℕ) → Call
  Trim : (name : List ℕ) (part : ℕ) → Call
  Write : (block : ℕ) → Call
  -- the block is the one that the device tells
  Collect : (block : ℕ) → Call

pub data Answer : Type 0 where
  -- of make: the new file's inode, and the slot of its name
  Made : (inode slot : ℕ) → Answer
  -- of link and rename: the slot of the new name
  InSlot : (slot : ℕ) → Answer
  -- of put: the part's block; of collect: the block whose write has landed
  InBlock : (block : ℕ) → Answer
  -- of remove, trim and write
  Done : Answer

-- an outcome with its answer as one of these
abbrev pub answering : {A : Type 0} → (A → Answer) → Outcome A → Outcome Answer
answering f (Ok d) = Ok (record { answer = f d.answer; changes = d.changes })
answering f (Err r) = Err r

-- what a call comes to in a state
unfoldable pub act : State → Call → Outcome Answer
act st (Make name) = answering (λ p. Made p.0 p.1) (make st name)
act st (Link old new) = answering InSlot (link st old new)
act st (Rename old new) = answering InSlot (rename st old new)
act st (Remove name) = answering (λ _. Done) (remove st name)
act st (Put name part bytes) = answering InBlock (put st name part bytes)
act st (Trim name part) = answering (λ _. Done) (trim st name part)
act st (Write block) = answering (λ _. Done) (write st block)
act st (Collect block) = answering InBlock (collect st block)
