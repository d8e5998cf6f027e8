-- Inodes and slots read back from the images that are sent.
use Rattle.std.proofs.Common.{◌≡◌, ℕ, ◌+◌, ◌-◌, ◌*◌, ◌%◌, ◌<◌, eqb, ltb, List, length, refl, ap, ◌∙◌, inl, inr, arith}
use Rattle.std.proofs.lemmas.Bool.{lt-ltb, le-ltb, ne_eqb, cond-true, cond-false, cond_both}
use Rattle.std.proofs.lemmas.Slice.Eq.{bytes_eq-Decides}
use Rattle.blocks.specs.Bytes.{quarter, joined, whole}
use Rattle.blocks.proofs.Joined.{whole_is, length-joined, length-quarter, quarter-joined}
use Rattle.layout.specs.declared.region.Region.TheVariants.{Inodes, Directory}
use Rattle.layout.specs.Shapes.{inode_block, slot_block, slots, first_directory, first_data}
use Rattle.layout.specs.Regions.{region}
use Rattle.layout.specs.Entries.{empty}
use Rattle.rules.specs.Views.{has_file, slot_of}
use Rattle.rules.specs.Standing.{confirmed, firm}
use Rattle.rules.specs.States.{State}
use Rattle.rules.specs.References.{shown_at}
use Rattle.rules.specs.Kinds.{entries, inode_in, entry_goes, entry_ready}
use Rattle.rules.specs.Images.{image_file, image_absent, still_named, image_inode, image_slot, image_in, image}
use Rattle.rules.specs.Formed.{Formed}
use Rattle.rules.specs.Ordering.{old_at}
use Rattle.rules.proofs.Shown.{Shows, shown_cases}

module _ (st : State) (formed : Formed st) where
  confirmed_long : (b : ℕ) → b < st.shape.blocks → length (confirmed st.device b) ≡ 64
  confirmed_long b h = formed.kept.whole b (omega (arith, formed.sized))

  -- the blocks of inodes, and of slots
  inode_region : (i : ℕ) → i < st.shape.inodes → region st.shape (inode_block i) ≡ Inodes
  inode_region i h =
      let b = inode_block i in
      let even = formed.good.inodes_even in
      cond-false (eqb b 0) _ _ (ne_eqb b 0 (λ e. omega arith)) ∙ cond-false (eqb b 1) _ _ (ne_eqb b 1 (λ e. omega arith))
      ∙ cond-false (eqb b 2) _ _ (ne_eqb b 2 (λ e. omega arith)) ∙ cond-true (ltb b (first_directory st.shape)) _ _ (lt-ltb b _ (omega arith))

  slot_region : (s : ℕ) → s < slots st.shape → region st.shape (slot_block st.shape s) ≡ Directory
  slot_region s h =
      let b = slot_block st.shape s in
      cond-false (eqb b 0) _ _ (ne_eqb b 0 (λ e. omega arith)) ∙ cond-false (eqb b 1) _ _ (ne_eqb b 1 (λ e. omega arith))
      ∙ cond-false (eqb b 2) _ _ (ne_eqb b 2 (λ e. omega arith)) ∙ cond-false (ltb b (first_directory st.shape)) _ _ (le-ltb b _ (omega arith))
      ∙ cond-true (ltb b (first_data st.shape)) _ _ (lt-ltb b _ (omega arith))

  inode_long : (i : ℕ) → i < st.shape.inodes → length (inode_in (confirmed st.device (inode_block i)) i) ≡ 16
  inode_long i h =
      let good = formed.good in
      length-quarter (confirmed st.device (inode_block i)) (i % 4) (omega arith) (confirmed_long (inode_block i) (omega (arith, good.room, good.inodes_even)))

  image_inode_long : (i : ℕ) → i < st.shape.inodes → length (image_inode st i) ≡ 16
  unfolding image_inode image_file image_absent
  image_inode_long i h =
      cond_both (has_file st.view i) _ _ Quarter
      (λ _. cond_both (firm st.device 1 _) _ _ Quarter (λ _. refl) (λ _. inode_long i h))
      (λ _. cond_both (still_named st i) _ _ Quarter (λ _. inode_long i h) (λ _. refl))
    where
      Quarter : List ℕ → Type 0
      Quarter bytes = length bytes ≡ 16

  -- inode i of the image of its block
  pub sent_inode : (i : ℕ) → i < st.shape.inodes → inode_in (image st (inode_block i)) i ≡ image_inode st i
  unfolding image image_in
  sent_inode i h =
      let f : ℕ → List ℕ = λ k. image_inode st (4 * (inode_block i - 3) + k) in
      let place : 4 * (inode_block i - 3) + i % 4 ≡ i = omega arith in
      ap (λ r. inode_in (whole (image_in st (inode_block i) r)) i) (inode_region i h)
      ∙ ap (λ c. inode_in c i) (whole_is (joined f) (length-joined f))
      ∙ quarter-joined f (i % 4) (omega arith) (ap (λ n. length (image_inode st n)) place ∙ image_inode_long i h)
      ∙ ap (image_inode st) place

  -- what a slot's image shows
  pub image_slot_cases : (s : ℕ) → Shows (entries st.shape).same empty (entry_goes st s) (entry_ready st) (λ a b. (bytes_eq-Decides a b).0) (old_at (entries st.shape) st s) (slot_of st.view s) (image_slot st s)
  unfolding image_slot shown_at
  image_slot_cases s = shown_cases _ empty (entry_goes st s) (entry_ready st) (λ a b. (bytes_eq-Decides a b).0) (old_at (entries st.shape) st s) (slot_of st.view s)

  image_slot_long : (s : ℕ) → s < slots st.shape → length (image_slot st s) ≡ 16
  image_slot_long s h =
      let good = formed.good in
      let block = slot_block st.shape s in
      let old = length-quarter (confirmed st.device block) (s % 4) (omega arith) (confirmed_long block (omega (arith, good.room))) in
      let new = formed.view.slot_long s h in
      elim (image_slot_cases s) [
        | inl e ↦ ap length e ∙ old
        | inr o ↦ elim o [ inl e ↦ ap length e.0 ∙ new | inr e ↦ ap length e.0 ∙ new ]
      ]

  -- slot s of the image of its block
  pub sent_slot : (s : ℕ) → s < slots st.shape → quarter (image st (slot_block st.shape s)) (s % 4) ≡ image_slot st s
  unfolding image image_in
  sent_slot s h =
      let block = slot_block st.shape s in
      let f : ℕ → List ℕ = λ k. image_slot st (4 * (block - first_directory st.shape) + k) in
      let place : 4 * (block - first_directory st.shape) + s % 4 ≡ s = omega arith in
      ap (λ r. quarter (whole (image_in st block r)) (s % 4)) (slot_region s h)
      ∙ ap (λ c. quarter c (s % 4)) (whole_is (joined f) (length-joined f))
      ∙ quarter-joined f (s % 4) (omega arith) (ap (λ n. length (image_slot st n)) place ∙ image_slot_long s h)
      ∙ ap (image_slot st) place
