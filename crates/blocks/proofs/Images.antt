-- A block that is written through the part of an image that starts there.
use Rattle.std.proofs.Common.{◌≡◌, ℕ, ◌+◌, ◌-◌, ◌*◌, ◌/◌, ◌%◌, ◌<◌, ◌≤◌, cond, eqb, ltb, List, [], ◌++◌, length, get_or, take, drop, set, sym, refl, ap, ◌∙◌, inl, inr, append-nil, arith, get_or-set_other, get_or-set_same}
use borrow.Rule.Slice.PartMut.{put_mid}
use Rattle.std.proofs.lemmas.List.{length-append, length-set, length-take-le, length-drop, take_all, drop_all, get_or_append_left, get_or-append_right, get_or-take, get_or-drop}
use Rattle.std.proofs.lemmas.Bool.{cases_lt, cases_eq, eq-eqb, ne_eqb, le-ltb, cond-true, cond-false}
use Rattle.std.proofs.lemmas.Bool.Decides.{nat_tests}
use Rattle.finite.specs.Finite.{table}
use Rattle.blocks.specs.Images.{image_block, image_blocks, with_block, with_blocks}
use Rattle.finite.proofs.Tables.{length-table, get_or-table, table_is, table_same}
use Rattle.blocks.proofs.Parts.{part_at}

module _ (image bytes : List ℕ) (b : ℕ) (fits : 64 * b + 64 ≤ length image) (whole : length bytes ≡ 64) where
  -- what lies before the block, the block, and what lies after it
  abbrev pub written : List ℕ
  written = take (64 * b) image ++ (bytes ++ drop 64 (drop (64 * b) image))

  front_long : length (take (64 * b) image) ≡ 64 * b
  front_long = length-take-le (64 * b) image (omega arith)

  length-written : length written ≡ length image
  length-written =
      let front = front_long in
      let rest : length (drop 64 (drop (64 * b) image)) ≡ length image - 64 * b - 64 = simp (length-drop, length-drop) in
      simp (length-append, length-append) (omega arith)

  past : (n : ℕ) → 64 * b ≤ n → get_or written n 0 ≡ get_or (bytes ++ drop 64 (drop (64 * b) image)) (n - 64 * b) 0
  past n h = get_or-append_right (take (64 * b) image) _ (64 * b) n 0 front_long h

  written_at : (n : ℕ) → get_or written n 0 ≡ cond (eqb (n / 64) b) (get_or bytes (n % 64) 0) (get_or image n 0)
  written_at n =
      elim (cases_lt n (64 * b)) [
        | inl below ↦
            get_or_append_left (take (64 * b) image) _ 0 n (omega (arith, front_long)) ∙ get_or-take (64 * b) image n 0 below
            ∙ sym (cond-false (eqb (n / 64) b) _ _ (ne_eqb (n / 64) b (λ e. omega arith)))
        | inr from ↦ elim (cases_lt n (64 * b + 64)) [
          | inl inside ↦
              let place : n - 64 * b ≡ n % 64 = omega arith in
              past n from ∙ get_or_append_left bytes _ 0 (n - 64 * b) (omega arith) ∙ ap (λ k. get_or bytes k 0) place
              ∙ sym (cond-true (eqb (n / 64) b) _ _ (eq-eqb (n / 64) b (omega arith)))
          | inr after ↦
              let place : 64 * b + (64 + (n - 64 * b - 64)) ≡ n = omega arith in
              past n from ∙ get_or-append_right bytes _ 64 (n - 64 * b) 0 whole (omega arith)
              ∙ get_or-drop 64 (drop (64 * b) image) (n - 64 * b - 64) 0 ∙ get_or-drop (64 * b) image (64 + (n - 64 * b - 64)) 0
              ∙ ap (λ k. get_or image k 0) place
              ∙ sym (cond-false (eqb (n / 64) b) _ _ (ne_eqb (n / 64) b (λ e. omega arith)))
        ]
      ]

  written_is : written ≡ with_block image b bytes
  unfolding with_block
  written_is = table_is (length image) _ written 0 length-written (λ n h. written_at n)

  -- the part that starts at the block was lent, and has come back with the block written
  pub lent : (part : List ℕ) → part ≡ bytes ++ drop 64 (take (length image - 64 * b) (drop (64 * b) image))
      → put_mid (64 * b) (length image - 64 * b) image part ≡ with_block image b bytes
  lent part e =
      let rest = drop (64 * b) image in
      let long : length rest ≤ length image - 64 * b = simp length-drop (omega arith) in
      let whole-rest = take_all (length image - 64 * b) rest long in
      let no_more = drop_all (length image - 64 * b) rest long in
      let part-is : part ≡ bytes ++ drop 64 rest = e ∙ ap (λ r. bytes ++ drop 64 r) whole-rest in
      ap (λ r. take (64 * b) image ++ (part ++ r)) no_more ∙ ap (λ r. take (64 * b) image ++ r) (append-nil part ∙ part-is) ∙ written_is

-- the first blocks of an image, one after the other
module _ (f : ℕ → List ℕ) (image : List ℕ) where
  pub blocks_none : with_blocks f 0 image ≡ image
  unfolding with_blocks
  blocks_none = sym (table_is (length image) _ image 0 refl (λ k h. sym (cond-false (ltb k 0) _ _ (le-ltb k 0 (omega arith)))))

  pub length-blocks : (n : ℕ) → length (with_blocks f n image) ≡ length image
  unfolding with_blocks
  length-blocks n = length-table (length image) _

  byte_more : (b k : ℕ) (x y z : ℕ) → (k / 64 ≡ b → x ≡ y)
      → cond (eqb (k / 64) b) x (cond (ltb k (64 * b)) y z) ≡ cond (ltb k (64 * (b + 1))) y z
  byte_more b k x y z e = grind (arith, nat_tests)

  pub blocks_more : (b : ℕ) → with_block (with_blocks f b image) b (f b) ≡ with_blocks f (b + 1) image
  unfolding with_block with_blocks
  blocks_more b =
      ap (λ n. table n (λ k. cond (eqb (k / 64) b) (get_or (f b) (k % 64) 0) (get_or (with_blocks f b image) k 0))) (length-blocks b)
      ∙ table_same (length image) _ _ 0 (λ k h.
      ap (cond (eqb (k / 64) b) (get_or (f b) (k % 64) 0)) (get_or-table (length image) _ k 0 h)
      ∙ byte_more b k _ _ _ (λ e. ap (λ n. get_or (f n) (k % 64) 0) (sym e)))

-- the blocks of an image, each of them whole
module _ (n : ℕ) (image : List ℕ) where
  pub length-image_blocks : length (image_blocks n image) ≡ n
  unfolding image_blocks
  length-image_blocks = length-table n (image_block image)

  pub image_block_at : (b : ℕ) (d : List ℕ) → b < n → get_or (image_blocks n image) b d ≡ image_block image b
  unfolding image_blocks
  image_block_at b d h = get_or-table n (image_block image) b d h

length-image_block : (image : List ℕ) (b : ℕ) → 64 * b + 64 ≤ length image → length (image_block image b) ≡ 64
length-image_block image b h = length-take-le 64 (drop (64 * b) image) (simp length-drop (omega arith))

pub image_blocks_whole : (n : ℕ) (image : List ℕ) → 64 * n ≤ length image → (b : ℕ) → b < n → length (get_or (image_blocks n image) b []) ≡ 64
image_blocks_whole n image l b h = ap length (image_block_at n image b [] h) ∙ length-image_block image b (omega arith)

-- an image with another block is as long as before, and has that block and the others
module _ (image : List ℕ) (b : ℕ) (bytes : List ℕ) where
  pub length-with_block : length (with_block image b bytes) ≡ length image
  unfolding with_block
  length-with_block = length-table (length image) _

  with_block_at : (k : ℕ) → k < length image
      → get_or (with_block image b bytes) k 0 ≡ cond (eqb (k / 64) b) (get_or bytes (k % 64) 0) (get_or image k 0)
  unfolding with_block
  with_block_at k h = get_or-table (length image) _ k 0 h

  with_block_part : (k : ℕ) (xs : List ℕ) → 64 * k + 64 ≤ length image → length xs ≡ 64
      → ((j : ℕ) → j < 64 → get_or xs j 0 ≡ cond (eqb k b) (get_or bytes j 0) (get_or image (64 * k + j) 0))
      → xs ≡ image_block (with_block image b bytes) k
  with_block_part k xs fits long same =
      let size = length-with_block in
      table_is 64 _ xs 0 long (λ j h. same j h ∙ sym (at j h))
      ∙ sym (table_is 64 (λ j. get_or (image_block (with_block image b bytes) k) j 0) (image_block (with_block image b bytes) k) 0
      (length-image_block _ k (omega arith)) (λ j h. refl))
    where
      at : (j : ℕ) → j < 64
          → get_or (image_block (with_block image b bytes) k) j 0 ≡ cond (eqb k b) (get_or bytes j 0) (get_or image (64 * k + j) 0)
      at j h =
          let block : (64 * k + j) / 64 ≡ k = omega arith in
          let place : (64 * k + j) % 64 ≡ j = omega arith in
          part_at (with_block image b bytes) (64 * k) 64 j h ∙ with_block_at (64 * k + j) (omega arith)
          ∙ (λ i. cond (eqb (block i) b) (get_or bytes (place i) 0) (get_or image (64 * k + j) 0))

  -- to write a block of an image is to set it among the blocks
  pub image_blocks_with : (n : ℕ) → b < n → 64 * n ≤ length image → length bytes ≡ 64
      → image_blocks n (with_block image b bytes) ≡ set (image_blocks n image) b bytes
  unfolding image_blocks
  image_blocks_with n h l whole =
      let long = length-image_blocks n image in
      sym (table_is n (image_block (with_block image b bytes)) (set (image_blocks n image) b bytes) []
      (length-set (image_blocks n image) b bytes ∙ long) (λ k i. elim (cases_eq b k) [
        | inl e ↦
            ap (λ x. get_or (set (image_blocks n image) b bytes) x []) (sym e) ∙ get_or-set_same (image_blocks n image) b bytes [] (omega (arith, long))
            ∙ with_block_part k bytes (omega arith) whole (λ j q. sym (cond-true (eqb k b) _ _ (eq-eqb k b (sym e))))
        | inr e ↦
            get_or-set_other (image_blocks n image) b k bytes [] (λ x. e (sym x)) ∙ image_block_at n image k [] i
            ∙ with_block_part k (image_block image k) (omega arith) (length-image_block image k (omega arith))
            (λ j q. part_at image (64 * k) 64 j q ∙ sym (cond-false (eqb k b) _ _ (ne_eqb k b (λ x. e (sym x)))))
      ]))
