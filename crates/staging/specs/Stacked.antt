-- What a staging device means, over what the device below means.
use Rattle.std.specs.Prelude.{◌≡◌, ℕ, ◌++◌, List}
use Rattle.std.proofs.Common.{arith}
use Rattle.std.proofs.lemmas.List.{length-append}
use Rattle.blocks.specs.Bytes.{Block}
use Rattle.device.specs.Meaning.{Meaning, means, Kept}
use Rattle.device.specs.declared.types.Write.{Write}
use Rattle.device.specs.declared.Device.{Ghosts}
use Rattle.staging.specs.Staged.{deeper}
use Rattle.staging.specs.declared.types.Staging.{Staging}

-- over what the device below says of itself
module _ {D : Type 0} (g : Ghosts D) where
  -- the meaning of a device
  abbrev pub meaning : D → Meaning
  meaning d = means g.medium g.waiting g.size g.depth d

  -- the medium is that of the device below
  abbrev pub medium_of : Staging D g → List Block
  medium_of s = g.medium s.inner

  -- the writes below wait longer than those in the queue
  abbrev pub waiting_of : Staging D g → List Write
  waiting_of s = g.waiting s.inner ++ s.queue.items

  -- the size is that of the device below
  abbrev pub size_of : Staging D g → ℕ
  size_of s = g.size s.inner

  -- the queue makes the device deeper
  abbrev pub depth_of : Staging D g → ℕ
  depth_of s = deeper (g.depth s.inner)

-- a staging device keeps what every device keeps, where the device below does
pub staged_kept : {D : Type 0} (g : Ghosts D) (s : Staging D g) → Kept (meaning g s.inner) → Kept (means (medium_of g) (waiting_of g) (size_of g) (depth_of g) s)
staged_kept g s low =
    let long = length-append (g.waiting s.inner) s.queue.items in
    record {
      long = low.long;
      whole = low.whole;
      distinct = s.staged.distinct;
      within = s.staged.within;
      few = omega (arith, low.few, s.staged.added, s.queue.ok.0, s.fits);
      some = omega (arith, low.some);
      bound = omega arith;
    }

-- what a staging device says of itself, as the device below another says it
abbrev pub stacked : {D : Type 0} → (g : Ghosts D) → Ghosts (Staging D g)
stacked g = record { medium = medium_of g; waiting = waiting_of g; size = size_of g; depth = depth_of g }

-- a new staging device holds no write, so it means what the device below means, and is deeper
abbrev pub Fresh : {D : Type 0} → (g : Ghosts D) → D → Staging D g → Type 0
Fresh g d s = meaning (stacked g) s ≡ record { medium = g.medium d; waiting = g.waiting d; size = g.size d; depth = deeper (g.depth d) }
