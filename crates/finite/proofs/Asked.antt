-- What is decided by asking a test of each element of a list in order, and of each number below a bound.
use Rattle.std.proofs.Common.{◌≡◌, ℕ, ◌<◌, Bool, true, false, List, length, Some, None, Option, get_or, Bor, Iter, sym, ◌∙◌, subst, zero-add, arith}
use Rattle.std.specs.Bool.{MatchBool}
use Rattle.std.specs.Fn.{Mut, Called}
use Rattle.std.specs.Iterator.{YieldsThen}
use Rattle.std.specs.Slice.Iter.{iter_rest}
use Rattle.std.specs.Option.{MatchOption}
use Rattle.std.specs.List.{range_with_len, AllWithin, HoldsAt, FoldsTo}
use Rattle.std.proofs.lemmas.List.FromFn.{length-range_with_len, get_or-range_with_len}
use Rattle.std.proofs.lemmas.Iterator.{cases_from_all, YieldsList-from_slice}
use Rattle.std.proofs.lemmas.Fn.{fronts}
use Rattle.finite.specs.Finite.{every, exists, lowest}
use Rattle.finite.specs.Tests.{Tells}
use Rattle.finite.proofs.Decided.{every_from, every_miss, exists_from, none_exists, none_lowest, lowest_hit}

-- p is what the answers tell, of each place of the list
module _ {A : Type 0} (xs : List A) (d : A) (p : ℕ → Bool) (Yes No : A → Type 0)
    (yes : (k : ℕ) → k < length xs → Yes (get_or xs k d) → p k ≡ true) (no : (k : ℕ) → k < length xs → No (get_or xs k d) → p k ≡ false) where
  none : AllWithin No xs 0 (length xs) → (k : ℕ) → k < length xs → p k ≡ false
  none all k h = no k h (all k d (omega arith) h)

  pub every_asked : (r : Bool) → MatchBool r (AllWithin Yes xs 0 (length xs)) ((k : ℕ) × (k < length xs) × HoldsAt No xs k) → r ≡ every (length xs) p
  every_asked true all = sym (every_from p (length xs) (λ k h. yes k h (all k d (omega arith) h)))
  every_asked false some = sym (every_miss p (length xs) some.0 (no some.0 some.1 (some.2 d)) some.1)

  pub exists_asked : (r : Bool) → MatchBool r ((k : ℕ) × (k < length xs) × HoldsAt Yes xs k) (AllWithin No xs 0 (length xs)) → r ≡ exists (length xs) p
  exists_asked true some = sym (exists_from p (length xs) some.0 some.1 (yes some.0 some.1 (some.2 d)))
  exists_asked false all = sym (none_exists p (length xs) (none all))

  pub lowest_asked : (r : Option ℕ)
      → MatchOption r (AllWithin No xs 0 (length xs)) (λ k. (k < length xs) × HoldsAt Yes xs k × AllWithin No xs 0 k) → r ≡ lowest (length xs) p
  lowest_asked None all = sym (none_lowest p (length xs) (none all))
  lowest_asked (Some k) first =
      let before = none_lowest p k (λ j i. no j (omega (arith, first.0)) (first.2 j d (omega arith) i)) in
      sym (lowest_hit p (length xs) k before (yes k first.0 (first.1 d)) first.0)

-- the numbers below a bound, in order
abbrev pub numbers : ℕ → List ℕ
numbers n = range_with_len 0 n

-- a number is its own place among them
pub number_at : (n : ℕ) (Q : ℕ → Type 0) (k : ℕ) → k < length (numbers n) → Q (get_or (numbers n) k 0) → (k < n) × Q k
number_at n Q k h q =
    let l : k < n = omega (arith, length-range_with_len 0 n) in
    (l, subst Q (get_or-range_with_len 0 n k 0 l ∙ zero-add k) q)

-- what the test answered of a number is what p tells
pub told : (n : ℕ) (answers : ℕ → Bool → Type 0) (p : ℕ → Bool) → Tells n answers p
    → (b : Bool) (k : ℕ) → k < length (numbers n) → answers (get_or (numbers n) k 0) b → p k ≡ b
told n answers p tells b k h y = let at = number_at n (λ x. answers x b) k h y in sym (tells k b at.0 at.1)

-- `all` over a slice whose elements the closure tests by t
pub every_element : {A F : Type 0} {g : Mut F (Bor A × Unit {0}) Bool} {s : Iter A} (u : Iter A) (f : F) (xs : List A) (d : A) (t : A → Bool) (r : Bool) →
    (zs : List (Bor A)) × (o : Option (Bor A)) × (j : F) × YieldsThen fronts s zs o u × FoldsTo (λ p x q. Called g p (x, tt) true q) f zs j × MatchOption o (r ≡ true) (λ x. (r ≡ false) × ((h : F) × Called g j (x, tt) false h))
    → iter_rest s ≡ xs → ((x : Bor A) (b : Bool) (q : F) → Called g f (x, tt) b q → (q ≡ f) × (b ≡ t x.now)) → r ≡ every (length xs) (λ k. t (get_or xs k d))
every_element u f xs d t r ran rest says =
    every_asked xs d (λ k. t (get_or xs k d)) (λ x. t x ≡ true) (λ x. t x ≡ false) (λ k h e. e) (λ k h e. e) r
    (cases_from_all u f r (λ x. t x ≡ true) (λ x. t x ≡ false) ran (YieldsList-from_slice xs rest) (λ x q k. let said = says x true q k in (said.0, sym said.1)) (λ x q k. sym (says x false q k).1))
