-- What the checks of a call leave: whatever holds of every refusal, and of every way on, holds of the call.
use Rattle.std.proofs.Common.{◌≡◌, ℕ, Bool, true, false, not, List, is_some, Some, None, Err, Option, Result, refl}
use Rattle.std.proofs.lemmas.Bool.{not-true, both_ways}
use Rattle.finite.proofs.Decided.{lowest_at}
use Rattle.layout.specs.declared.refusal.Refusal.{Refusal}
use Rattle.layout.specs.declared.refusal.Refusal.TheVariants.{MalformedName, NoSuchName, NameExists, NameLeaving, NoFreeSlot}
use Rattle.layout.specs.Shapes.{slots}
use Rattle.layout.specs.Names.{proper}
use Rattle.rules.specs.States.{State}
use Rattle.rules.specs.Free.{free_slot, next_slot, find, name_stands}
use Rattle.rules.specs.Calls.{check, need, check_new, check_named, check_names}
use Rattle.rules.specs.Allowed.{Nameable, Droppable}
use Rattle.rules.proofs.Named.{find_droppable}

module _ {A : Type 0} (P : Result A Refusal → Type 0) (refusal : (r : Refusal) → P (Err r)) where
  pub checked : (test : Bool) (r : Refusal) (rest : Result A Refusal) → (test ≡ true → P rest) → P (check test r rest)
  checked true r rest go = go refl
  checked false r rest go = refusal r

  pub needed : (o : Option ℕ) (r : Refusal) (rest : ℕ → Result A Refusal) → ((n : ℕ) → o ≡ Some n → P (rest n)) → P (need o r rest)
  needed (Some n) r rest go = go n refl
  needed None r rest go = refusal r

  module _ (st : State) where
    pub after_new : (name : List ℕ) (rest : Result A Refusal) → (find st name ≡ None → name_stands st name ≡ false → P rest) → P (check_new st name rest)
    unfolding check_new
    after_new name rest go =
        checked (not (is_some (find st name))) NameExists _ λ unseen.
        checked (not (name_stands st name)) NameLeaving _ λ gone.
        go (none (find st name) (not-true _ unseen)) (not-true _ gone)
      where
        none : (o : Option ℕ) → is_some o ≡ false → o ≡ None
        none (Some n) h = absurd (both_ways true h refl)
        none None h = refl

    pub after_named : (name : List ℕ) (rest : ℕ → Result A Refusal)
        → ((s : ℕ) → find st name ≡ Some s → Droppable st s → P (rest s)) → P (check_named st name rest)
    unfolding check_named
    after_named name rest go =
        checked (proper name) MalformedName _ λ formed.
        needed (find st name) NoSuchName _ λ s found.
        go s found (find_droppable st name s formed found)

    pub after_slot : (name : List ℕ) (rest : ℕ → Result A Refusal) → proper name ≡ true → find st name ≡ None → name_stands st name ≡ false
        → ((s : ℕ) → Nameable st s name → P (rest s)) → P (need (next_slot st) NoFreeSlot rest)
    after_slot name rest formed unseen gone go =
        needed (next_slot st) NoFreeSlot _ λ s found.
        let free = lowest_at (free_slot st) (slots st.shape) s found in
        go s (record { formed = formed; unseen = unseen; gone = gone; within = free.0; free = free.1 })

    pub after_names : (old new : List ℕ) (rest : ℕ → ℕ → Result A Refusal)
        → ((o s : ℕ) → find st old ≡ Some o → Droppable st o → Nameable st s new → P (rest o s)) → P (check_names st old new rest)
    unfolding check_names
    after_names old new rest go =
        checked (proper old) MalformedName _ λ formed-old.
        checked (proper new) MalformedName _ λ formed.
        needed (find st old) NoSuchName _ λ o found.
        after_new new _ λ unseen gone.
        after_slot new (rest o) formed unseen gone λ s nameable.
        go o s found (find_droppable st old o formed-old found) nameable
