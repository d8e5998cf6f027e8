-- What a search by `find_map` over the numbers below n finds.
use Rattle.std.proofs.Common.{◌≡◌, ℕ, ◌+◌, ◌<◌, true, Some, None, Option, MatchOption, IfSome, IsSomeAnd, option_map, sym, ap, ◌∙◌, subst, arith}
use Rattle.std.specs.Fn.{Called}
use Rattle.std.specs.Iterator.Runs.{SomeRun, AllItemsGive, IsFirstToGive, ItemsCountUp, CallKeepsClosure}
use Rattle.std.specs.declared.ops.Range.{Range}
use Rattle.std.proofs.iter.Yields.{nat_range_steps}
use Rattle.std.proofs.iter.runs.Sources.{range_runs}
use denote.Param.Members.{Mut}

-- r is the first of h 0 to h (n - 1) that is some
abbrev pub First : {X : Type 0} → ℕ → (ℕ → Option X) → Option X → Type 0
First n h r = MatchOption r ((k : ℕ) → k < n → h k ≡ None) (λ y. (i : ℕ) × (i < n) × (h i ≡ Some y) × ((k : ℕ) → k < i → h k ≡ None))

-- the closure is f at every call, and answers h
module _ {F X : Type 0} (g : Mut F (ℕ × Unit {0}) (Option X)) (f : F) (h : ℕ → Option X) (computes : (x : ℕ) (r : Option X) (q : F) → Called g f (x, tt) r q → (q ≡ f) × (r ≡ h x)) where
  -- what was answered at a place is what h says there
  answers : (k : ℕ) (o : Option ℕ) (r : Option X) → option_map (λ y. y) o ≡ Some k → IfSome o (λ x. Called g f (x, tt) r f) → h k ≡ r
  answers k None r e m = absurd cc
  answers k (Some x) r e m = let z : k ≡ x = cc in ap h z ∙ sym (computes x r f m).1

  -- an item that came is one, if there is any
  came : (o : Option ℕ) (r : Option X) → IsSomeAnd o (λ x. Called g f (x, tt) r f) → IfSome o (λ x. Called g f (x, tt) r f)
  came None r m = absurd m
  came (Some x) r m = m

  pub first_from_find_map : (n : ℕ) (r : Option X)
      → SomeRun nat_range_steps (record { start = 0; end = n })
      (λ p. MatchOption r ((p.whole ≡ true) × AllItemsGive p g f None) (λ y. (i : ℕ) × (i < p.len) × (p.len ≡ i + 1) × IsFirstToGive p g f (Some y) None i))
      → First n h r
  first_from_find_map n r d = ends r d.2
    where
      counts : ItemsCountUp d.0 0 n
      counts = subst (λ (s : Range ℕ). ItemsCountUp d.0 s.start s.end) d.1 (range_runs d.0 d.0.seen)

      place : (k : ℕ) → k < d.0.len → option_map (λ y. y) (d.0.at k) ≡ Some k
      place k l = let z : 0 + k ≡ k = omega arith in counts.3 k l ∙ ap Some z

      keeps : CallKeepsClosure g f
      keeps a r q c = (computes a.0 r q c).0

      ends : (r : Option X) → MatchOption r ((d.0.whole ≡ true) × AllItemsGive d.0 g f None) (λ y. (i : ℕ) × (i < d.0.len) × (d.0.len ≡ i + 1) × IsFirstToGive d.0 g f (Some y) None i) → First n h r
      ends None m = λ k l. answers k (d.0.at k) None (place k (omega (arith, counts.1 m.0))) (m.1 keeps k)
      ends (Some y) m = (
        m.0,
        omega (arith, m.1, counts.0),
        answers m.0 (d.0.at m.0) (Some y) (place m.0 m.1) (came (d.0.at m.0) (Some y) (m.3 keeps).0),
        λ k l. answers k (d.0.at k) None (place k (omega (arith, m.1))) (came (d.0.at k) None ((m.3 keeps).1 k l)),
      )
