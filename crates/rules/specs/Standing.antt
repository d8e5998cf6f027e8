-- What may stand on the medium: the confirmed bytes of each block, and those under way.
use Rattle.std.specs.Prelude.{◌≡◌, ℕ, ◌<◌, Bool, cond, ◌&&◌, ◌||◌, ◌⊎◌, List, [], ◌∷◌, length, Some, None, Option, ◌==◌}
use Rattle.std.specs.Option.{unwrap_or}
use Rattle.blocks.specs.Bytes.{Block}
use Rattle.soundness.specs.Media.{Medium, block}
use Rattle.device.specs.declared.types.Write.{Write}
use Rattle.device.specs.Meaning.{Meaning}

-- the bytes of block b on the medium
abbrev pub confirmed : Meaning → ℕ → Block
confirmed d b = block d.medium b

-- the bytes of block b's waiting write, if one waits
unfoldable pub under_way : List Write → ℕ → Option Block
under_way [] b = None
under_way (w ∷ ws) b = cond (w.block == b) (Some w.bytes) (under_way ws b)

-- what block b holds once its waiting write has landed; the confirmed bytes where none waits
unfoldable pub newest : Meaning → ℕ → Block
newest d b = unwrap_or (under_way d.waiting b) (confirmed d b)

-- c is a standing copy of block b: a power cut may leave it there
abbrev pub Copy : Meaning → ℕ → Block → Type 0
Copy d b c = (c ≡ confirmed d b) ⊎ (c ≡ newest d b)

-- a test is firm if it holds of every standing copy
unfoldable pub firm : Meaning → ℕ → (Block → Bool) → Bool
firm d b test = test (confirmed d b) && test (newest d b)

-- some standing copy passes the test
unfoldable pub stands : Meaning → ℕ → (Block → Bool) → Bool
stands d b test = test (confirmed d b) || test (newest d b)

-- a standing medium has one standing copy of each block, whichever: what a power cut may leave now
pub record Standing (d : Meaning) (m : Medium) : Type 0 where
  pub long : length m ≡ d.size
  pub copy : (b : ℕ) → b < d.size → Copy d b (block m b)
