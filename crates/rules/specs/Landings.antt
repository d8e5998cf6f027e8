-- The rules and the device's own meaning: standing media are what power cuts leave, and collects are landings.
use Rattle.std.specs.Prelude.{◌≡◌, ℕ, true}
use Rattle.soundness.specs.Media.{Medium}
use Rattle.device.specs.Meaning.{Meaning, Kept, Lands, waits}
use Rattle.device.specs.Cuts.{cut_medium}
use Rattle.rules.specs.Standing.{Standing}
use Rattle.rules.specs.Changes.{landing}

pub record AsTheDevice (d : Meaning) : Type 0 where
  -- whichever of the waiting writes land when the power is cut, what is left is a standing medium
  pub left : (mask : ℕ) → Standing d (cut_medium mask d.waiting d.medium)
  -- and every standing medium is left by some cut
  pub leaves : (m : Medium) → Standing d m → (mask : ℕ) × (m ≡ cut_medium mask d.waiting d.medium)
  -- a collect that tells block b leaves what the rules say
  pub told : (b : ℕ) (e : Meaning) → Lands d b e → (waits d.waiting b ≡ true) × (e ≡ landing d b)
  -- and a device may tell any block that waits
  pub tells : (b : ℕ) → waits d.waiting b ≡ true → Lands d b (landing d b)

-- the law, for every device
abbrev pub LandingsAgree : Type 0
LandingsAgree = (d : Meaning) → Kept d → AsTheDevice d
