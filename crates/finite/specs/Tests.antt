-- What a test does that is given as a closure.
use Rattle.std.specs.Prelude.{◌≡◌, ℕ, ◌<◌, Bool}

-- it may be asked of every number below n
abbrev pub Takes : ℕ → (ℕ → Type 0) → Type 0
Takes n asked = (k : ℕ) → k < n → asked k

-- of every number below n it answers as p does
abbrev pub Tells : ℕ → (ℕ → Bool → Type 0) → (ℕ → Bool) → Type 0
Tells n answers p = (k : ℕ) (b : Bool) → k < n → answers k b → b ≡ p k
