-- The blocks of an empty card.
use Rattle.std.proofs.Common.{◌≡◌, ℕ, ◌+◌, ◌*◌, ◌<◌, eqb, ltb, ◌∷◌, length, replicate, refl, arith}
use Rattle.std.proofs.lemmas.Bool.{cond_both}
use Rattle.blocks.specs.Bytes.{Block, low, high}
use Rattle.blocks.specs.Bits.{packed}
use Rattle.layout.specs.declared.geometry.Shape.{Shape}
use Rattle.layout.specs.Shapes.{Good, first_data}
use Rattle.layout.specs.Heads.{head_of, head_shape}
use Rattle.layout.specs.Fresh.{fresh_block}
use Rattle.finite.proofs.Tables.{length-table}

module _ (g : Shape) (good : Good g) where
  small : (n : ℕ) → n < 256 → (n ≡ low n) × (0 ≡ high n)
  small n h = (omega arith, omega arith)

  -- the numbers of a geometry have one byte each
  pub head_spelled : 70 ∷ 83 ∷ 84 ∷ 0 ∷ 1 ∷ 0 ∷ g.blocks ∷ 0 ∷ g.inodes ∷ 0 ∷ g.directory ∷ 0 ∷ replicate 52 0 ≡ head_of g
  head_spelled =
      let n = small g.blocks (omega (arith, good.blocks_high)) in
      let i = small g.inodes (omega (arith, good.inodes_high)) in
      let d = small g.directory (omega (arith, good.directory_high)) in
      λ j. 70 ∷ 83 ∷ 84 ∷ 0 ∷ 1 ∷ 0 ∷ n.0 j ∷ n.1 j ∷ i.0 j ∷ i.1 j ∷ d.0 j ∷ d.1 j ∷ replicate 52 0

  pub head_back : head_shape (head_of g) ≡ g
  head_back =
      let n : low g.blocks + 256 * high g.blocks ≡ g.blocks = omega arith in
      let i : low g.inodes + 256 * high g.inodes ≡ g.inodes = omega arith in
      let d : low g.directory + 256 * high g.directory ≡ g.directory = omega arith in
      λ j. record { blocks = n j; inodes = i j; directory = d j }

-- each has 64 bytes
pub fresh_whole : (g : Shape) (b : ℕ) → length (fresh_block g b) ≡ 64
unfolding packed
fresh_whole g b =
    cond_both (eqb b 0) (head_of g) _ Whole (λ _. refl) (λ _.
    cond_both (eqb b 1) (packed (λ n. ltb n 1)) _ Whole (λ _. length-table 64 _) (λ _.
    cond_both (eqb b 2) (packed (λ n. ltb n (first_data g))) (replicate 64 0) Whole (λ _. length-table 64 _) (λ _. refl)))
  where
    Whole : Block → Type 0
    Whole bytes = length bytes ≡ 64
