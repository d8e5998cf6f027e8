-- Tests of the numbers below a bound, and lists told by the index.
use Rattle.std.specs.Prelude.{ℕ, zero, suc, ◌+◌, Bool, true, false, cond, ◌&&◌, ◌||◌, List, map, Some, None, Option}
use Rattle.std.specs.List.{range_with_len}

-- every number below n has p
unfoldable pub every : ℕ → (ℕ → Bool) → Bool
every zero p = true
every (suc n) p = every n p && p n

-- some number below n has p
unfoldable pub exists : ℕ → (ℕ → Bool) → Bool
exists zero p = false
exists (suc n) p = exists n p || p n

-- a test as a number: 1 where it holds, 0 elsewhere
abbrev pub digit : Bool → ℕ
digit true = 1
digit false = 0

-- how many numbers below n have p
unfoldable pub count : ℕ → (ℕ → Bool) → ℕ
count zero p = 0
count (suc n) p = count n p + digit (p n)

-- what was found already, or else n where the test holds
abbrev pub or_else : Option ℕ → Bool → ℕ → Option ℕ
or_else (Some k) test n = Some k
or_else None test n = cond test (Some n) None

-- the lowest number below n that has p
unfoldable pub lowest : ℕ → (ℕ → Bool) → Option ℕ
lowest zero p = None
lowest (suc n) p = or_else (lowest n p) (p n) n

-- the list f 0, f 1, .., f (n - 1)
unfoldable pub table : {A : Type 0} → ℕ → (ℕ → A) → List A
table n f = map f (range_with_len 0 n)
