-- The slots: each is empty or leads a name to a present inode, and no name stands twice.
use Rattle.std.proofs.Common.{◌≡◌, ℕ, ◌+◌, ◌*◌, ◌%◌, ◌<◌, ◌≤◌, true, [], length, ◌⊎◌, List, get_or, Decides, sym, ap, ◌∙◌, subst, inl, inr, arith}
use Rattle.std.proofs.lemmas.Bool.{cases_Bool, both_ways}
use Rattle.std.proofs.lemmas.Slice.Eq.{bytes_eq-Decides}
use Rattle.std.proofs.lemmas.Bool.Decides.{Decides-like, Decides-and, Decides-ltb}
use Rattle.std.proofs.lemmas.List.{get_or_past}
use Rattle.blocks.specs.Bytes.{Block}
use Rattle.layout.specs.declared.refusal.Refusal.TheVariants.{BadSlot, NameTwice}
use Rattle.layout.specs.declared.geometry.Shape.{Shape}
use Rattle.layout.specs.Shapes.{slots, slot_block}
use Rattle.layout.specs.Inodes.{present}
use Rattle.layout.specs.Entries.{empty, target, title}
use Rattle.layout.specs.Names.{Named}
use Rattle.blocks.proofs.Parts.{part_at}
use Rattle.layout.proofs.Titles.{named_well_formed, well_formed_named, printable_some}
use Rattle.soundness.specs.Media.{Medium, block, inode, slot}
use Rattle.soundness.specs.Faults.{leads, slot_fault, same_name, name_fault}
use Rattle.soundness.specs.Verdict.{slot_place, slot_verdict, name_verdict}
use Rattle.soundness.specs.Sound.{Blank, Leads}
use Rattle.soundness.proofs.Cleared.{Spares, Clears, clears_found, clears_like, spares_but, spares_not, spares_no, spares_exists, decides_itself}
use Rattle.soundness.proofs.InodeLaws.{decides_blank}
use Rattle.soundness.proofs.Alone.{FirstOf, Carried, alone}

-- past the last block there is no entry
pub no_entry : (g : Shape) (m : Medium) (s : ℕ) → length m ≤ slot_block g s → empty (slot g m s) ≡ true
no_entry g m s past =
    (decides_blank (slot g m s)).1 (λ k h. part_at (block m (slot_block g s)) (16 * (s % 4)) 16 k h
    ∙ ap (λ (b : Block). get_or b (16 * (s % 4) + k) 0) (get_or_past m (slot_block g s) [] past) ∙ get_or_past [] (16 * (s % 4) + k) 0 (omega arith))

-- a name does not begin with a zero byte, and so a blank slot has none
blank_title : (bytes : List ℕ) → Blank bytes → Named (title bytes) → ⊥
blank_title bytes blank n =
    printable_some (get_or (title bytes) 0 0) (n.bytes 0 n.some)
    (part_at bytes 2 14 0 (omega arith) ∙ blank 2 (omega arith))

module _ (g : Shape) (m : Medium) where
  abbrev pub Entries : Type 0
  Entries = (s : ℕ) → s < slots g → Blank (slot g m s) ⊎ Leads g m s

  abbrev pub OneName : Type 0
  OneName = (s t : ℕ) → s < slots g → t < slots g → title (slot g m s) ≡ title (slot g m t) → Blank (slot g m s) ⊎ (s ≡ t)

  decides_leads : (s : ℕ) → Decides (leads g m s) (Leads g m s)
  decides_leads s =
      let name = title (slot g m s) in
      let to = target (slot g m s) in
      Decides-like _
      (λ f. record { named = f.0; within = f.1.0; led = f.1.1 })
      (λ f. (f.named, (f.within, f.led)))
      (Decides-and _ _ (well_formed_named name, named_well_formed name)
      (Decides-and _ _ (Decides-ltb to g.inodes) (decides_itself (present (inode m to)))))

  pub clears_slots : Clears (slot_verdict g m) Entries
  clears_slots =
      clears_found BadSlot (slot_place g) (slots g) (slot_fault g m) (λ s. Blank (slot g m s) ⊎ Leads g m s)
      (λ s _. spares_but _ _ (decides_blank (slot g m s)) (spares_not _ (decides_leads s)))

  -- slot t holds another name than slot s, or none
  abbrev Differs : ℕ → ℕ → Type 0
  Differs s t = Blank (slot g m t) ⊎ (title (slot g m s) ≡ title (slot g m t) → ⊥)

  abbrev Unique : ℕ → Type 0
  Unique s = Blank (slot g m s) ⊎ ((t : ℕ) → t < s → Differs s t)

  spares_name : (s : ℕ) → Spares (name_fault g m s) (Unique s)
  spares_name s =
      spares_but _ _ (decides_blank (slot g m s))
      (spares_exists s (same_name g m s) (Differs s) (λ t.
      spares_but _ _ (decides_blank (slot g m t)) (spares_no _ (bytes_eq-Decides (title (slot g m s)) (title (slot g m t))))))

  unique_one_name : Entries → ((s : ℕ) → s < slots g → Unique s) → OneName
  unique_one_name entries f = alone (λ s. title (slot g m s)) (λ s. Blank (slot g m s)) (slots g) carried first_of
    where
      carried : Carried (λ s. title (slot g m s)) (λ s. Blank (slot g m s)) (slots g)
      carried s t h e blank = elim (entries s h) [ inl b ↦ b | inr l ↦ absurd (blank_title (slot g m t) blank (subst Named e l.named)) ]

      first_of : FirstOf (λ s. title (slot g m s)) (λ s. Blank (slot g m s)) (slots g)
      first_of s h = elim (f s h) [
        | inl b ↦ inl b
        | inr u ↦ inr (λ t l e. elim (u t l) [ inl b ↦ b | inr d ↦ absurd (d (sym e)) ])
      ]

  one_name_unique : OneName → (s : ℕ) → s < slots g → Unique s
  one_name_unique one s h =
      elim (cases_Bool (empty (slot g m s))) [
        | inl e ↦ inl ((decides_blank (slot g m s)).0 e)
        | inr e ↦ inr (λ t l. inr (λ same. elim (one s t h (omega arith) same) [
          | inl b ↦ both_ways (empty (slot g m s)) e ((decides_blank (slot g m s)).1 b)
          | inr q ↦ omega arith
        ]))
      ]

  pub clears_names : Entries → Clears (name_verdict g m) OneName
  clears_names entries =
      clears_like (name_verdict g m) (unique_one_name entries) one_name_unique
      (clears_found NameTwice (slot_place g) (slots g) (name_fault g m) Unique (λ s _. spares_name s))
