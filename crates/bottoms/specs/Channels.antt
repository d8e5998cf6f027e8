-- Which write a device with four channels takes next.
use Rattle.std.specs.Prelude.{ℕ, zero, suc, ◌+◌, ◌%◌, cond, List, [], ◌∷◌, Some, None, Option, ◌==◌}
use Rattle.std.specs.Option.{option_map}
use Rattle.device.specs.declared.types.Write.{Write}

-- the place of the oldest write on channel c: block b is on channel b % 4
abbrev pub oldest : ℕ → List Write → Option ℕ
oldest c [] = None
oldest c (w ∷ ws) = cond (w.block % 4 == c) (Some 0) (option_map suc (oldest c ws))

-- the first where there is one, else the second
abbrev pub first_of : {X : Type 0} → Option X → Option X → Option X
first_of None y = y
first_of (Some x) y = Some x

-- the place of the oldest write of the first of n channels that has one, from channel c on, channel 0 coming after channel 3
abbrev pub picked_among : ℕ → List Write → ℕ → Option ℕ
picked_among zero ws c = None
picked_among (suc n) ws c = first_of (oldest (c % 4) ws) (picked_among n ws (c + 1))

-- the same of all four channels
abbrev pub picked : List Write → ℕ → Option ℕ
picked ws c = picked_among 4 ws c
