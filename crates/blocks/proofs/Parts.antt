-- The bytes of a part.
use Rattle.std.proofs.Common.{◌≡◌, ℕ, ◌+◌, ◌<◌, List, get_or, drop, ◌∙◌, get_or-drop, get_or-take}
use Rattle.blocks.specs.Bytes.{part}

pub part_at : (bytes : List ℕ) (a n k : ℕ) → k < n → get_or (part bytes a n) k 0 ≡ get_or bytes (a + k) 0
part_at bytes a n k h = get_or-take n (drop a bytes) k 0 h ∙ get_or-drop a bytes k 0
