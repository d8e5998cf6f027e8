-- References of any kind, and the rule by which an image shows them.
use Rattle.std.specs.Prelude.{ℕ, Bool, cond, not, ◌&&◌, ◌||◌, ◌==◌}
use Rattle.finite.specs.Finite.{exists}
use Rattle.blocks.specs.Bytes.{Block}
use Rattle.rules.specs.Views.{View}
use Rattle.rules.specs.Standing.{confirmed, firm, stands}
use Rattle.rules.specs.States.{State}

-- a kind of reference: where references of this kind stand, and what one is
pub record Kind (R : Type 0) : Type 0 where
  -- how many places there are
  pub places : ℕ
  -- the block that a place lies in
  pub home : ℕ → ℕ
  -- the reference at a place, in a copy of that block
  pub read : Block → ℕ → R
  -- the reference at a place, in the view
  pub seen : View → ℕ → R
  -- whether two are the same
  pub same : R → R → Bool
  -- whether a reference is empty
  pub empty : R → Bool
  -- the number of what it leads to
  pub target : R → ℕ

-- The reference rule. One that is unchanged since it was confirmed is shown. One that the view has emptied is shown empty if it may go, and a new
-- one is shown if its target is ready, also where it takes another's place; otherwise the confirmed one is shown.
abbrev pub shown : {R : Type 0} (same : R → R → Bool) (empty goes ready : R → Bool) (old new : R) → R
shown same empty goes ready old new =
    cond (same old new) new
    (cond (empty new) (cond (goes old) new old)
    (cond (ready new) new old))

module _ {R : Type 0} (k : Kind R) where
  -- a reference leads to n
  abbrev pub leads : ℕ → R → Bool
  leads n r = not (k.empty r) && k.target r == n

  -- the view has a reference to n
  unfoldable pub view_leads : View → ℕ → Bool
  view_leads v n = exists k.places (λ p. leads n (k.seen v p))

  -- some standing copy of place p has a reference to n
  unfoldable pub stands_at : State → ℕ → ℕ → Bool
  stands_at st n p = stands st.device (k.home p) (λ c. leads n (k.read c p))

  -- the view or a standing copy of place p has a reference to n
  unfoldable pub held : State → ℕ → ℕ → Bool
  held st n p = leads n (k.seen st.view p) || stands_at st n p

  -- place p has a reference to n in the view and in every standing copy
  unfoldable pub anchored : State → ℕ → ℕ → Bool
  anchored st n p = leads n (k.seen st.view p) && firm st.device (k.home p) (λ c. leads n (k.read c p))

  -- place p is empty in the view and in every standing copy
  unfoldable pub vacant : State → ℕ → Bool
  vacant st p = k.empty (k.seen st.view p) && firm st.device (k.home p) (λ c. k.empty (k.read c p))

  -- what an image shows at place p
  unfoldable pub shown_at : State → (goes ready : R → Bool) → ℕ → R
  shown_at st goes ready p =
      shown k.same k.empty goes ready (k.read (confirmed st.device (k.home p)) p) (k.seen st.view p)
