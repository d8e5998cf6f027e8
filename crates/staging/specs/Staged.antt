-- A queue of newer writes above a device.
use Rattle.std.specs.Prelude.{◌≡◌, ℕ, ◌+◌, ◌-◌, ◌<◌, min, true, List, [], ◌++◌, length}
use Rattle.device.specs.Meaning.{Meaning, apart, inside}
use Rattle.device.specs.declared.types.Write.{Write}

-- eight deeper, up to 1,000
abbrev pub deeper : ℕ → ℕ
deeper n = min (n + 8) 1000

-- a device, with a queue of newer writes above it
abbrev pub above : List Write → Meaning → Meaning
above queue d = record { medium = d.medium; waiting = d.waiting ++ queue; size = d.size; depth = deeper d.depth }

-- what a staging device keeps between the device below and its queue
pub record Staged (d : Meaning) (room : ℕ) (queue : List Write) : Type 0 where
  pub added : room ≡ min 8 (1000 - d.depth)
  -- the device below is filled up first
  pub eager : length d.waiting < d.depth → queue ≡ []
  pub distinct : apart (d.waiting ++ queue) ≡ true
  pub within : inside d.size (d.waiting ++ queue) ≡ true
