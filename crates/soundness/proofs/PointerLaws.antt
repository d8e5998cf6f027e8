-- The pointers: each leads nowhere or to a block of its own in the data area. Pointer k of inode i is pointer 6 i + k of the card.
use Rattle.std.proofs.Common.{◌≡◌, ℕ, ◌+◌, ◌*◌, ◌/◌, ◌%◌, ◌<◌, eqb, ◌⊎◌, Decides, sym, ◌∙◌, subst, inl, inr, arith}
use Rattle.std.proofs.lemmas.Bool.Decides.{Decides-like, Decides-and, Decides-eqb, Decides-ltb}
use Rattle.layout.specs.declared.refusal.Refusal.TheVariants.{BadPointer}
use Rattle.blocks.specs.Bits.{bit}
use Rattle.layout.specs.declared.geometry.Shape.{Shape}
use Rattle.layout.specs.Shapes.{first_data}
use Rattle.layout.specs.Inodes.{pointer}
use Rattle.soundness.specs.Media.{Medium, block, inode}
use Rattle.soundness.specs.Faults.{pointer_at, marked_data, pointer_fault}
use Rattle.soundness.specs.Verdict.{pointer_place, pointer_verdict}
use Rattle.soundness.specs.Sound.{Given}
use Rattle.soundness.proofs.Cleared.{Clears, clears_found, clears_like, decides_leb, decides_itself}
use Rattle.soundness.proofs.Cleared.{Spares, spares_but, spares_not, spares_no, spares_or, spares_exists}
use Rattle.soundness.proofs.Alone.{FirstOf, alone}

module _ (g : Shape) (m : Medium) where
  -- no pointer before q leads where q does
  abbrev New : ℕ → Type 0
  New q = (r : ℕ) → r < q → pointer_at m r ≡ pointer_at m q → ⊥

  abbrev Fine : ℕ → Type 0
  Fine q = (pointer_at m q ≡ 0) ⊎ (Given g m (pointer_at m q) × New q)

  abbrev pub Pointers : Type 0
  Pointers = (i k : ℕ) → i < g.inodes → k < 6 → (pointer (inode m i) k ≡ 0) ⊎ Given g m (pointer (inode m i) k)

  abbrev pub OneOwner : Type 0
  OneOwner = (i j k l : ℕ) → i < g.inodes → j < g.inodes → k < 6 → l < 6
      → pointer (inode m i) k ≡ pointer (inode m j) l → (pointer (inode m i) k ≡ 0) ⊎ ((i ≡ j) × (k ≡ l))

  decides_given : (b : ℕ) → Decides (marked_data g m b) (Given g m b)
  decides_given b =
      Decides-like _
      (λ f. record { after_directory = f.0.0; within = f.0.1; marked = f.1 })
      (λ f. ((f.after_directory, f.within), f.marked))
      (Decides-and _ _ (Decides-and _ _ (decides_leb (first_data g) b) (Decides-ltb b g.blocks)) (decides_itself (bit (block m 2) b)))

  spares_pointer : (q : ℕ) → Spares (pointer_fault g m q) (Fine q)
  spares_pointer q =
      let p = pointer_at m q in
      spares_but _ _ (Decides-eqb p 0)
      (spares_or _ _ (spares_not _ (decides_given p))
      (spares_exists q (λ r. eqb (pointer_at m r) p) (λ r. pointer_at m r ≡ p → ⊥) (λ r. spares_no _ (Decides-eqb (pointer_at m r) p))))

  abbrev AllFine : Type 0
  AllFine = (q : ℕ) → q < 6 * g.inodes → Fine q

  numbered : (i k : ℕ) → k < 6 → pointer_at m (6 * i + k) ≡ pointer (inode m i) k
  numbered i k h =
      let which : (6 * i + k) / 6 ≡ i = omega arith in
      let part : (6 * i + k) % 6 ≡ k = omega arith in
      (λ j. pointer (inode m (which j)) (part j))

  fine_pointers : AllFine → Pointers
  fine_pointers f i k hi hk =
      subst (λ b. (b ≡ 0) ⊎ Given g m b) (numbered i k hk) (elim (f (6 * i + k) (omega arith)) [ inl z ↦ inl z | inr w ↦ inr w.0 ])

  fine_one_owner : AllFine → OneOwner
  fine_one_owner f i j k l hi hj hk hl e =
      elim (alone (pointer_at m) (λ q. pointer_at m q ≡ 0) (6 * g.inodes) (λ q r h d z. d ∙ z) first_of
      (6 * i + k) (6 * j + l) (omega arith) (omega arith) (numbered i k hk ∙ e ∙ sym (numbered j l hl))) [
        | inl z ↦ inl (sym (numbered i k hk) ∙ z)
        | inr q ↦ inr (omega arith, omega arith)
      ]
    where
      first_of : FirstOf (pointer_at m) (λ q. pointer_at m q ≡ 0) (6 * g.inodes)
      first_of q h = elim (f q h) [ inl z ↦ inl z | inr w ↦ inr (λ r l d. absurd (w.1 r l d)) ]

  pointers_fine : Pointers × OneOwner → AllFine
  pointers_fine w q h = elim (w.0 (q / 6) (q % 6) (omega arith) (omega arith)) [ inl z ↦ inl z | inr given ↦ inr (given, new given) ]
    where
      new : Given g m (pointer_at m q) → New q
      new given r l e = elim (w.1 (r / 6) (q / 6) (r % 6) (q % 6) (omega arith) (omega arith) (omega arith) (omega arith) e) [
        | inl z ↦ let none = sym e ∙ z in omega arith
        | inr same ↦ omega arith
      ]

  pub clears_pointers : Clears (pointer_verdict g m) (Pointers × OneOwner)
  clears_pointers =
      clears_like (pointer_verdict g m) (λ f. (fine_pointers f, fine_one_owner f)) pointers_fine
      (clears_found BadPointer pointer_place (6 * g.inodes) (pointer_fault g m) Fine (λ q _. spares_pointer q))
