-- The head: its fields are within their limits exactly when it tells a good geometry, byte for byte.
use Rattle.std.proofs.Common.{◌≡◌, ℕ, zero, suc, ◌+◌, ◌*◌, ◌/◌, ◌%◌, ◌<◌, ◌≤◌, List, [], ◌∷◌, length, get_or, replicate, None, sym, ap, ◌∙◌, not-suc-le-zero, arith, get_or-drop, ext_get_or}
use lib.ListN.{get_or-replicate}
use Rattle.std.proofs.lemmas.Slice.Eq.{HasBytesAt}
use Rattle.std.proofs.lemmas.Bool.Decides.{Decides-and, Decides-eqb, Decides-ltb}
use Rattle.layout.specs.declared.refusal.Refusal.TheVariants.{BadHead}
use Rattle.blocks.specs.Bytes.{Block, word, low, high}
use Rattle.layout.specs.declared.geometry.Shape.{Shape}
use Rattle.layout.specs.Shapes.{Good}
use Rattle.layout.specs.Heads.{head_of, head_shape}
use Rattle.soundness.specs.Verdict.{at, filling_fault, head_verdict}
use Rattle.soundness.proofs.Cleared.{Clears, clears_then, clears_found, clears_like, spares_not, decides_leb}

two_bytes : (a b : ℕ) → a + 256 * b < 256 → (a ≡ low (a + 256 * b)) × (b ≡ high (a + 256 * b))
two_bytes a b h = (omega arith, omega arith)

module _ (head : Block) where
  abbrev byte : ℕ → ℕ
  byte k = get_or head k 0

  -- bytes that are read one by one are those of the list
  read_byte : (p : List ℕ) (i k : ℕ) → HasBytesAt head i p → k < length p → byte (i + k) ≡ get_or p k 0
  read_byte [] i k r h = absurd (not-suc-le-zero h)
  read_byte (c ∷ p) i zero r h = ap byte (omega arith) ∙ r.0
  read_byte (c ∷ p) i (suc k) r h = ap byte (omega arith) ∙ read_byte p (suc i) k r.1 (omega arith)

  read_zeros : (n i : ℕ) → ((k : ℕ) → k < n → byte (i + k) ≡ 0) → HasBytesAt head i (replicate n 0)
  read_zeros zero i f = tt
  read_zeros (suc n) i f =
      (ap byte (omega arith) ∙ f 0 (omega arith), read_zeros n (suc i) (λ k h. ap byte (omega arith) ∙ f (suc k) (omega arith)))

  -- the head tells g, byte for byte
  abbrev pub Headed : Shape → Type 0
  Headed g = (k : ℕ) → k < 64 → byte k ≡ get_or (head_of g) k 0

  -- it tells no other geometry
  pub headed_shape : (g : Shape) → Good g → Headed g → head_shape head ≡ g
  headed_shape g good h =
      let blocks : word head 6 ≡ g.blocks = omega (arith, h 6 (omega arith), h 7 (omega arith)) in
      let inodes : word head 8 ≡ g.inodes = omega (arith, h 8 (omega arith), h 9 (omega arith)) in
      let directory : word head 10 ≡ g.directory = omega (arith, h 10 (omega arith), h 11 (omega arith)) in
      (λ j. record { blocks = blocks j; inodes = inodes j; directory = directory j })

  -- what the tests of a head ask, in their order
  abbrev Limits : ℕ → ℕ → ℕ → Type 0
  Limits n i d = ((4 ≤ i) × ((i ≤ 32) × (i % 4 ≡ 0)))
      × (((1 ≤ d) × ((d ≤ 8) × (3 + i / 4 + d < n)))
      × ((k : ℕ) → k < 52 → byte (12 + k) ≡ 0))

  abbrev Fields : ℕ → Type 0
  Fields size = ((8 ≤ size) × (size ≤ 128))
      × (((byte 0 ≡ 70) × ((byte 1 ≡ 83) × (byte 2 ≡ 84)))
      × ((byte 3 ≡ 0) × ((word head 4 ≡ 1) × ((word head 6 ≡ size) × Limits (word head 6) (word head 8) (word head 10)))))

  -- the head tells a good geometry of this size
  abbrev pub Tells : ℕ → Type 0
  Tells size = (word head 6 ≡ size) × Good (head_shape head) × Headed (head_shape head)

  fields_tell : (size : ℕ) → Fields size → Tells size
  fields_tell size f =
      let letters = f.1.0 in
      let version = f.1.1.1.0 in
      let sized = f.1.1.1.1.0 in
      let inodes = f.1.1.1.1.1.0 in
      let directory = f.1.1.1.1.1.1.0 in
      let filled = f.1.1.1.1.1.1.1 in
      let n = two_bytes (byte 6) (byte 7) (omega (arith, f.0.1, sized)) in
      let i = two_bytes (byte 8) (byte 9) (omega (arith, inodes.1.0)) in
      let d = two_bytes (byte 10) (byte 11) (omega (arith, directory.1.0)) in
      let reads : HasBytesAt head 0 (head_of (head_shape head)) = (
        letters.0,
        (
          letters.1.0,
          (
            letters.1.1,
            (
              f.1.1.0,
              (
                omega (arith, version),
                (
                  omega (arith, version),
                  (n.0, (n.1, (i.0, (i.1, (d.0, (d.1, read_zeros 52 12 filled)))))),
                ),
              ),
            ),
          ),
        ),
      ) in (
        sized,
        record {
          blocks_low = omega (arith, f.0.0, sized);
          blocks_high = omega (arith, f.0.1, sized);
          inodes_low = inodes.0;
          inodes_high = inodes.1.0;
          inodes_even = inodes.1.1;
          directory_low = directory.0;
          directory_high = directory.1.0;
          room = directory.1.1;
        },
        (λ k h. ap byte (omega arith) ∙ read_byte (head_of (head_shape head)) 0 k reads h),
      )

  tell_fields : (size : ℕ) → Tells size → Fields size
  tell_fields size t =
      let good = t.1 in
      let told = t.2 in
      let filled : (k : ℕ) → k < 52 → byte (12 + k) ≡ 0 =
      (λ k h. told (12 + k) (omega arith) ∙ sym (get_or-drop 12 (head_of (head_shape head)) k 0) ∙ get_or-replicate 52 k 0 0 h) in (
        (omega (arith, t.0, good.blocks_low), omega (arith, t.0, good.blocks_high)),
        (
          (told 0 (omega arith), (told 1 (omega arith), told 2 (omega arith))),
          (
            told 3 (omega arith),
            (
              omega (arith, told 4 (omega arith), told 5 (omega arith)),
              (
                t.0,
                (
                  (good.inodes_low, (good.inodes_high, good.inodes_even)),
                  ((good.directory_low, (good.directory_high, good.room)), filled),
                ),
              ),
            ),
          ),
        ),
      )

  pub clears_head : (size : ℕ) → Clears (head_verdict head size) (Tells size)
  clears_head size =
      let n = word head 6 in
      let i = word head 8 in
      let d = word head 10 in
      clears_like (head_verdict head size) (fields_tell size) (tell_fields size)
      (clears_then _ _ _ (Decides-and _ _ (decides_leb 8 size) (decides_leb size 128))
      (clears_then _ _ _ (Decides-and _ _ (Decides-eqb (byte 0) 70) (Decides-and _ _ (Decides-eqb (byte 1) 83) (Decides-eqb (byte 2) 84)))
      (clears_then _ _ _ (Decides-eqb (byte 3) 0)
      (clears_then _ _ _ (Decides-eqb (word head 4) 1)
      (clears_then _ _ _ (Decides-eqb n size)
      (clears_then _ _ _ (Decides-and _ _ (decides_leb 4 i) (Decides-and _ _ (decides_leb i 32) (Decides-eqb (i % 4) 0)))
      (clears_then _ _ _ (Decides-and _ _ (decides_leb 1 d) (Decides-and _ _ (decides_leb d 8) (Decides-ltb (3 + i / 4 + d) n)))
      (clears_found BadHead (λ k. at 0 (12 + k)) 52 (filling_fault head) (λ k. byte (12 + k) ≡ 0)
      (λ k _. spares_not _ (Decides-eqb (byte (12 + k)) 0))))))))))

  -- an accepted head is the one that its geometry writes
  pub accepted_back : (size : ℕ) → length head ≡ 64 → head_verdict head size ≡ None → head_of (head_shape head) ≡ head
  accepted_back size whole e = sym (ext_get_or 0 head (head_of (head_shape head)) whole (λ k h. ((clears_head size).0 e).2 k (omega arith)))
