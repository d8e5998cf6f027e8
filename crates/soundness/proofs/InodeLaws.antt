-- The inodes: each is absent or a file's, and counts the slots that name it.
use Rattle.std.proofs.Common.{ℕ, ◌+◌, ◌*◌, ◌%◌, ◌<◌, ◌≤◌, ◌&&◌, eqb, ltb, ◌⊎◌, List, get_or, Decides}
use Rattle.std.proofs.lemmas.Bool.Decides.{Decides-like, Decides-and, Decides-eqb, Decides-ltb}
use Rattle.layout.specs.declared.refusal.Refusal.TheVariants.{BadInode, FewLinks}
use Rattle.finite.specs.Finite.{count}
use Rattle.blocks.specs.Bytes.{zeros}
use Rattle.blocks.specs.Bits.{bit}
use Rattle.layout.specs.declared.geometry.Shape.{Shape}
use Rattle.layout.specs.Shapes.{slots, inode_block}
use Rattle.layout.specs.Inodes.{is_file, links}
use Rattle.finite.proofs.Decided.{every_at, every_from}
use Rattle.soundness.specs.Media.{Medium, block, inode, names}
use Rattle.soundness.specs.Faults.{inode_fault, link_fault}
use Rattle.soundness.specs.Verdict.{at, inode_verdict, link_verdict}
use Rattle.soundness.specs.Sound.{Blank, Filed}
use Rattle.soundness.proofs.Cleared.{Clears, clears_found, spares_but, spares_not, spares_ltb, decides_itself}

pub decides_blank : (bytes : List ℕ) → Decides (zeros 16 bytes) (Blank bytes)
decides_blank bytes = (
  (λ e k h. (Decides-eqb (get_or bytes k 0) 0).0 (every_at (λ j. eqb (get_or bytes j 0) 0) 16 e k h)),
  (λ f. every_from (λ j. eqb (get_or bytes j 0) 0) 16 (λ k h. (Decides-eqb (get_or bytes k 0) 0).1 (f k h))),
)

module _ (g : Shape) (m : Medium) where
  abbrev pub Inodes : Type 0
  Inodes = (i : ℕ) → i < g.inodes → Blank (inode m i) ⊎ Filed m i

  abbrev pub Counted : Type 0
  Counted = (i : ℕ) → i < g.inodes → count (slots g) (names g m i) ≤ links (inode m i)

  decides_filed : (i : ℕ) → Decides (is_file (inode m i) && (ltb 0 i && bit (block m 1) i)) (Filed m i)
  decides_filed i =
      Decides-like _
      (λ f. record { kind = f.0.0; zero_byte = f.0.1; numbered = f.1.0; marked = f.1.1 })
      (λ f. ((f.kind, f.zero_byte), (f.numbered, f.marked)))
      (Decides-and _ _
      (Decides-and _ _ (Decides-eqb (get_or (inode m i) 0 0) 1) (Decides-eqb (get_or (inode m i) 1 0) 0))
      (Decides-and _ _ (Decides-ltb 0 i) (decides_itself (bit (block m 1) i))))

  pub clears_inodes : Clears (inode_verdict g m) Inodes
  clears_inodes =
      clears_found BadInode (λ i. at (inode_block i) (16 * (i % 4))) g.inodes (inode_fault m) (λ i. Blank (inode m i) ⊎ Filed m i)
      (λ i _. spares_but _ _ (decides_blank (inode m i)) (spares_not _ (decides_filed i)))

  pub clears_links : Clears (link_verdict g m) Counted
  clears_links =
      clears_found FewLinks (λ i. at (inode_block i) (16 * (i % 4) + 2)) g.inodes (link_fault g m)
      (λ i. count (slots g) (names g m i) ≤ links (inode m i))
      (λ i _. spares_ltb (links (inode m i)) (count (slots g) (names g m i)))
