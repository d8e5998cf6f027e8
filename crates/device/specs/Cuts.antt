-- What a power cut leaves: bit k of the mask says whether the waiting write at place k lands.
use Rattle.std.specs.Prelude.{ℕ, ◌+◌, ◌/◌, ◌%◌, cond, List, [], ◌∷◌, ◌==◌}
use Rattle.blocks.specs.Bytes.{Block}
use Rattle.device.specs.declared.types.Write.{Write}
use Rattle.device.specs.Meaning.{Meaning, landed}

-- how many of these writes land
abbrev pub cut_count : ℕ → List Write → ℕ
cut_count mask [] = 0
cut_count mask (w ∷ ws) = mask % 2 + cut_count (mask / 2) ws

-- the medium on which those have landed whose bit is set
abbrev pub cut_medium : ℕ → List Write → List Block → List Block
cut_medium mask [] m = m
cut_medium mask (w ∷ ws) m = cut_medium (mask / 2) ws (cond (mask % 2 == 1) (landed m w) m)

-- no write waits after a cut
abbrev pub cut : ℕ → Meaning → Meaning
cut mask d = record { medium = cut_medium mask d.waiting d.medium; waiting = []; size = d.size; depth = d.depth }
