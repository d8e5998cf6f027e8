-- What a device means, and what each of its calls does to that.
use Rattle.std.specs.Prelude.{◌≡◌, ℕ, ◌<◌, ◌≤◌, Bool, true, false, cond, not, ◌&&◌, ◌||◌, List, [], ◌∷◌, ◌++◌, length, Some, None, Ok, Err, Option, Result, ◌==◌, nat_lt, slice_index_or, slice_set}
use Rattle.std.specs.List.{remove}
use Rattle.blocks.specs.Bytes.{Block}
use Rattle.layout.specs.declared.refusal.Refusal.{Refusal}
use Rattle.layout.specs.declared.refusal.Refusal.TheVariants.{NoSuchBlock, UnderWay, DeviceFull}
use Rattle.device.specs.declared.types.Write.{Write}

-- the blocks of the medium, the writes that wait, oldest first, how many blocks there are, and how many writes may wait
pub record Meaning : Type 0 where
  pub medium : List Block
  pub waiting : List Write
  pub size : ℕ
  pub depth : ℕ

-- the meaning of a device, from what its implementation says of each part
abbrev pub means : {D : Type 0} → (D → List Block) → (D → List Write) → (D → ℕ) → (D → ℕ) → D → Meaning
means medium waiting size depth d = record { medium = medium d; waiting = waiting d; size = size d; depth = depth d }

-- a write of block b is among these
abbrev pub waits : List Write → ℕ → Bool
waits [] b = false
waits (w ∷ ws) b = w.block == b || waits ws b

-- no two of these writes are of one block
abbrev pub apart : List Write → Bool
apart [] = true
apart (w ∷ ws) = not (waits ws w.block) && apart ws

-- each of these writes is of a block below n
abbrev pub inside : ℕ → List Write → Bool
inside n [] = true
inside n (w ∷ ws) = nat_lt w.block n && inside n ws

-- what every device keeps
pub record Kept (d : Meaning) : Type 0 where
  pub long : length d.medium ≡ d.size
  pub whole : (b : ℕ) → b < d.size → length (slice_index_or d.medium b []) ≡ 64
  pub distinct : apart d.waiting ≡ true
  pub within : inside d.size d.waiting ≡ true
  pub few : length d.waiting ≤ d.depth
  pub some : 1 ≤ d.depth
  pub bound : d.depth ≤ 1000

-- submit refuses a block past the end, then one that waits already, then any write where the list is as long as the depth
abbrev pub submit_answer : Meaning → ℕ → Result (Unit {0}) Refusal
submit_answer d b =
    cond (nat_lt b d.size)
    (cond (waits d.waiting b) (Err UnderWay) (cond (nat_lt (length d.waiting) d.depth) (Ok tt) (Err DeviceFull)))
    (Err NoSuchBlock)

-- an accepted write joins the end of the list; a refused one changes nothing
abbrev pub submitted : Result (Unit {0}) Refusal → Meaning → Write → Meaning
submitted (Ok u) d w = record { medium = d.medium; waiting = d.waiting ++ w ∷ []; size = d.size; depth = d.depth }
submitted (Err e) d w = d

-- a medium on which a write has landed
abbrev pub landed : List Block → Write → List Block
landed m w = slice_set m w.block w.bytes

-- one waiting write, whichever, has left the list for the medium, and its block is told
pub record Lands (d : Meaning) (b : ℕ) (e : Meaning) : Type 0 where
  pub place : ℕ
  pub write : Write
  pub within : place < length d.waiting
  pub is : write ≡ slice_index_or d.waiting place write
  pub tells : b ≡ write.block
  pub leaves : e ≡ record { medium = landed d.medium write; waiting = remove d.waiting place; size = d.size; depth = d.depth }

-- collect tells a block whose write has landed, or that none waits
abbrev pub Collected : Meaning → Option ℕ → Meaning → Type 0
Collected d None e = (d.waiting ≡ []) × (e ≡ d)
Collected d (Some b) e = Lands d b e

-- read gives a block of the medium, and refuses only one past the end
abbrev pub read_answer : Meaning → ℕ → Result Block Refusal
read_answer d b = cond (nat_lt b d.size) (Ok (slice_index_or d.medium b [])) (Err NoSuchBlock)
