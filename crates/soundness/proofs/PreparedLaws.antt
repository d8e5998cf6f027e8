-- An empty card is sound: its head and its maps are as they must be, and it has no inode and no entry.
use Rattle.std.proofs.Common.{◌≡◌, ℕ, ◌+◌, ◌*◌, ◌/◌, ◌%◌, ◌^◌, ◌<◌, ◌≤◌, false, eqb, ltb, List, [], length, get_or, replicate, refl, ap, ◌∙◌, inl, arith}
use lib.ListN.{get_or-replicate}
use Rattle.std.proofs.lemmas.Bool.{lt-ltb, le-ltb, ne_eqb, cond-true, cond-false, and_left, not_from_true}
use Rattle.finite.specs.Finite.{count}
use Rattle.blocks.specs.Bytes.{Block, quarter}
use Rattle.blocks.specs.Bits.{bit}
use Rattle.blocks.specs.Images.{image_blocks, with_blocks}
use Rattle.layout.specs.declared.geometry.Shape.{Shape}
use Rattle.layout.specs.Shapes.{Good, first_data, slots, inode_block, slot_block}
use Rattle.layout.specs.Inodes.{pointer}
use Rattle.layout.specs.Fresh.{fresh_block, prepared}
use Rattle.finite.proofs.Decided.{count_none}
use Rattle.finite.proofs.Tables.{get_or-table}
use Rattle.blocks.proofs.Packed.{bit-packed}
use Rattle.blocks.proofs.Parts.{part_at}
use Rattle.soundness.specs.Media.{Medium, block, inode, slot, names}
use Rattle.soundness.specs.Sound.{Blank, SoundAt, PreparedIsSound}
use Rattle.soundness.proofs.InodeLaws.{decides_blank}

-- an absent inode leads nowhere
blank_pointer : (bytes : List ℕ) → Blank bytes → (k : ℕ) → k < 6 → pointer bytes k ≡ 0
blank_pointer bytes blank k h = omega (arith, blank (4 + 2 * k) (omega arith), blank (4 + 2 * k + 1) (omega arith))

module _ (g : Shape) (good : Good g) (image : List ℕ) (long : length image ≡ 64 * g.blocks) where
  abbrev card : Medium
  card = image_blocks g.blocks (prepared g image)

  -- a block before the data area is the fresh one, byte for byte
  fresh_byte : (b k : ℕ) → b < first_data g → k < 64 → get_or (block card b) k 0 ≡ get_or (fresh_block g b) k 0
  unfolding image_blocks with_blocks
  fresh_byte b k before h =
      let which : (64 * b + k) / 64 ≡ b = omega arith in
      let place : (64 * b + k) % 64 ≡ k = omega arith in
      ap (λ (bytes : Block). get_or bytes k 0) (get_or-table g.blocks _ b [] (omega arith))
      ∙ part_at (prepared g image) (64 * b) 64 k h
      ∙ get_or-table (length image) _ (64 * b + k) 0 (omega arith) ∙ cond-true (ltb (64 * b + k) (64 * first_data g)) _ _ (lt-ltb _ _ (omega arith))
      ∙ (λ j. get_or (fresh_block g (which j)) (place j) 0)

  fresh_bit : (b n : ℕ) → b < first_data g → n < 512 → bit (block card b) n ≡ bit (fresh_block g b) n
  fresh_bit b n before h = ap (λ (byte : ℕ). eqb (byte / 2 ^ (n % 8) % 2) 1) (fresh_byte b (n / 8) before (omega arith))

  -- the inode map marks inode 0, and the block map the blocks before the data area
  inode_bit : (n : ℕ) → n < 512 → bit (block card 1) n ≡ ltb n 1
  inode_bit n h = fresh_bit 1 n (omega arith) h ∙ bit-packed (λ k. ltb k 1) n h

  block_bit : (n : ℕ) → n < 512 → bit (block card 2) n ≡ ltb n (first_data g)
  block_bit n h = fresh_bit 2 n (omega arith) h ∙ bit-packed (λ k. ltb k (first_data g)) n h

  -- the blocks of the inodes and of the directory are all zeros
  zero_block : (b : ℕ) → 3 ≤ b → fresh_block g b ≡ replicate 64 0
  zero_block b after =
      cond-false (eqb b 0) _ _ (ne_eqb b 0 (λ e. omega arith)) ∙ cond-false (eqb b 1) _ _ (ne_eqb b 1 (λ e. omega arith))
      ∙ cond-false (eqb b 2) _ _ (ne_eqb b 2 (λ e. omega arith))

  blank_quarter : (b k : ℕ) → 3 ≤ b → b < first_data g → k < 4 → Blank (quarter (block card b) k)
  blank_quarter b k after before h j l =
      part_at (block card b) (16 * k) 16 j l ∙ fresh_byte b (16 * k + j) before (omega arith)
      ∙ ap (λ (bytes : Block). get_or bytes (16 * k + j) 0) (zero_block b after) ∙ get_or-replicate 64 (16 * k + j) 0 0 (omega arith)

  blank_inode : (i : ℕ) → i < g.inodes → Blank (inode card i)
  blank_inode i h = blank_quarter (inode_block i) (i % 4) (omega arith) (omega arith) (omega arith)

  blank_slot : (s : ℕ) → s < slots g → Blank (slot g card s)
  blank_slot s h = blank_quarter (slot_block g s) (s % 4) (omega arith) (omega arith) (omega arith)

  no_pointer : (i k : ℕ) → i < g.inodes → k < 6 → pointer (inode card i) k ≡ 0
  no_pointer i k h = blank_pointer (inode card i) (blank_inode i h) k

  no_name : (i s : ℕ) → s < slots g → names g card i s ≡ false
  no_name i s h = and_left _ _ (not_from_true _ ((decides_blank (slot g card s)).1 (blank_slot s h)))

  no_names : (i : ℕ) → count (slots g) (names g card i) ≡ 0
  no_names i = count_none (names g card i) (slots g) (no_name i)

  card_sound : SoundAt g card
  card_sound =
      record {
        good = good;
        headed = λ k h. fresh_byte 0 k (omega arith) h;
        root_marked = inode_bit 0 (omega arith);
        no_inode_marked = λ i l h. inode_bit i h ∙ le-ltb i 1 (omega arith);
        fixed_marked = λ b h. block_bit b (omega arith) ∙ lt-ltb b (first_data g) h;
        no_block_marked = λ b l h. block_bit b h ∙ le-ltb b (first_data g) (omega arith);
        inodes = λ i h. inl (blank_inode i h);
        pointers = λ i k h l. inl (no_pointer i k h l);
        one_owner = λ i j k l hi hj hk hl e. inl (no_pointer i k hi hk);
        entries = λ s h. inl (blank_slot s h);
        one_name = λ s t hs ht e. inl (blank_slot s hs);
        counted = λ i h. omega (arith, no_names i);
      }

pub prepared_is_sound : PreparedIsSound
prepared_is_sound g good image long = record { shape = g; sized = refl; sound = card_sound g good image long }
