-- An attach begins in a coherent state.
use Rattle.std.proofs.Common.{◌≡◌, ℕ, ◌%◌, ◌<◌, true, not, ◌&&◌, ltb, List, [], ◌∷◌, length, get_or, replicate, is_some, is_ok, Some, None, Ok, Option, sym, refl, ap, ◌∙◌, subst, inl, inr, arith}
use Rattle.std.proofs.lemmas.Bool.{cases_lt, and_from, not_from_false, both_ways, true≢false, eq-eqb, cond-true, cond_both}
use Rattle.std.proofs.lemmas.List.{length-replicate, get_or_past}
use Rattle.std.proofs.lemmas.Option.{none-some, same_Some}
use Rattle.finite.specs.Finite.{exists, table}
use Rattle.finite.proofs.Decided.{exists_from}
use Rattle.finite.proofs.Tables.{length-table, get_or-table}
use Rattle.blocks.proofs.Joined.{length-quarter}
use Rattle.layout.specs.declared.refusal.Refusal.{Refusal}
use Rattle.layout.specs.declared.geometry.Shape.{Shape}
use Rattle.layout.specs.Shapes.{first_data, slots, slot_block}
use Rattle.layout.specs.Inodes.{present, pointer}
use Rattle.layout.specs.Entries.{empty, target}
use Rattle.layout.specs.Heads.{head_shape}
use Rattle.soundness.specs.Media.{Medium, block, inode, slot, names}
use Rattle.soundness.specs.Verdict.{verdict}
use Rattle.soundness.specs.Sound.{SoundAt, Sound}
use Rattle.soundness.proofs.HeadLaws.{headed_shape}
use Rattle.soundness.proofs.InodeLaws.{decides_blank}
use Rattle.soundness.proofs.Judged.{verdict_is_right}
use Rattle.device.specs.Meaning.{Meaning, Kept}
use Rattle.rules.specs.Views.{no_entry, slot_of, has_file}
use Rattle.rules.specs.States.{State, attached, unattached}
use Rattle.rules.specs.Attach.{Reply, file_on, bytes_on, view_on, started, landings, judged, attach}
use Rattle.rules.specs.Kept.{LeadsToFile, CoherentView, Coherent}
use Rattle.rules.proofs.Landings.{landing_kept}

-- a file, where there is one, has six parts
abbrev pub SixParts : Option (List ℕ) → Type 0
SixParts f = (p : List ℕ) → f ≡ Some p → length p ≡ 6

pub some_six : (p : List ℕ) → length p ≡ 6 → SixParts (Some p)
some_six p long q e = ap length (sym (same_Some p q e)) ∙ long

pub none_six : SixParts None
none_six p e = absurd (none-some p e)

landings_kept : (told : List ℕ) (d : Meaning) → Kept d → Kept (landings d told)
unfolding landings
landings_kept [] d kept = kept
landings_kept (b ∷ told) d kept = landings_kept told _ (landing_kept d kept b)

-- what a sound medium of whole blocks holds is a coherent view
module _ (g : Shape) (m : Medium) (sound : SoundAt g m) (whole : (b : ℕ) → b < g.blocks → length (block m b) ≡ 64) where
  slot_on : (s : ℕ) → s < slots g → slot_of (view_on g m) s ≡ slot g m s
  unfolding view_on
  slot_on s h = get_or-table (slots g) (slot g m) s no_entry h

  slot_long : (s : ℕ) → s < slots g → length (slot g m s) ≡ 16
  slot_long s h = length-quarter (block m (slot_block g s)) (s % 4) (omega arith) (whole (slot_block g s) (omega (arith, sound.good.room)))

  six_on : (i : ℕ) → SixParts (file_on g m i)
  unfolding file_on
  six_on i =
      cond_both (present (inode m i) && exists (slots g) (names g m i)) _ _ SixParts
      (λ _. some_six _ (length-table 6 (pointer (inode m i)))) (λ _. none_six)

  six_parts : (i : ℕ) → SixParts (get_or (table g.inodes (file_on g m)) i None)
  six_parts i = elim (cases_lt i g.inodes) [
    | inl h ↦ subst SixParts (sym (get_or-table g.inodes (file_on g m) i None h)) (six_on i)
    | inr h ↦ subst SixParts (sym (get_or_past (table g.inodes (file_on g m)) i None (omega (arith, length-table g.inodes (file_on g m))))) none_six
  ]

  -- a block has 64 bytes
  bytes_long : (b : ℕ) → b < g.blocks → length (bytes_on g m b) ≡ 64
  unfolding bytes_on
  bytes_long b h = cond_both (ltb b (first_data g)) (replicate 64 0) (block m b) (λ c. length c ≡ 64) (λ _. refl) (λ _. whole b h)

  -- a present inode that a slot names is a file
  file_there : (s i : ℕ) → s < slots g → i < g.inodes → present (inode m i) ≡ true → names g m i s ≡ true → has_file (view_on g m) i ≡ true
  unfolding view_on file_on
  file_there s i h within there named =
      ap is_some (get_or-table g.inodes (file_on g m) i None within
      ∙ cond-true _ _ _ (and_from (present (inode m i)) _ there (exists_from (names g m i) (slots g) s h named)))

  led : (s : ℕ) → s < slots g → LeadsToFile (view_on g m) (slot g m s)
  led s h used = elim (sound.entries s h) [
    | inl blank ↦ absurd (both_ways (empty (slot g m s)) used ((decides_blank (slot g m s)).1 blank))
    | inr leads ↦
        let i = target (slot g m s) in
        file_there s i h leads.within leads.led (and_from (not (empty (slot g m s))) _ (not_from_false _ used) (eq-eqb i i refl))
  ]

  view_begun : CoherentView g (view_on g m)
  unfolding view_on
  view_begun =
      record {
        formed = record {
          slots_long = length-table (slots g) (slot g m);
          slot_long = λ s h. ap length (slot_on s h) ∙ slot_long s h;
          files_long = length-table g.inodes (file_on g m);
          six_parts = six_parts;
          bytes_long = length-table g.blocks (bytes_on g m);
          part_long = λ b h. ap length (get_or-table g.blocks (bytes_on g m) b [] h) ∙ bytes_long b h;
        };
        led = λ s h. subst (LeadsToFile (view_on g m)) (sym (slot_on s h)) (led s h);
      }

-- a sound medium is so at the geometry that its head tells
started_coherent : (d : Meaning) → Kept d → Sound d.medium d.size → Coherent (started d)
unfolding started
started_coherent d kept s =
    let told = headed_shape (block d.medium 0) s.shape s.sound.good s.sound.headed in
    let sound = subst (λ (g : Shape). SoundAt g d.medium) (sym told) s.sound in
    let sized : d.size ≡ (head_shape (block d.medium 0)).blocks = sym s.sized ∙ ap (λ (g : Shape). g.blocks) (sym told) in
    let view = view_begun (head_shape (block d.medium 0)) d.medium sound (λ b h. kept.whole b (omega (arith, sized))) in
    record {
      formed = record { good = sound.good; view = view.formed; filled_long = length-replicate _ true; kept = kept; sized = sized };
      led = view.led;
    }

judged_coherent : (d : Meaning) (o : Option Refusal) (st : State) → Kept d → o ≡ verdict d.medium d.size
    → judged d o ≡ record { answer = Ok tt; after = attached st } → Coherent st
judged_coherent d None st kept q e =
    let is : attached (started d) ≡ attached st = ap (λ (r : Reply (Unit {0})). r.after) e in
    let same : started d ≡ st = cc in
    subst Coherent same (started_coherent d kept ((verdict_is_right d.medium d.size).0 (ap (λ v. not (is_some v)) (sym q))))
judged_coherent d (Some r) st kept q e = absurd (true≢false (sym (ap (λ (r : Reply (Unit {0})). is_ok r.answer) e)))

pub attach_coherent : (d : Meaning) (told : List ℕ) (st : State) → Kept d → attach (unattached d) told ≡ record { answer = Ok tt; after = attached st } → Coherent st
unfolding attach
attach_coherent d told st kept e = judged_coherent (landings d told) _ st (landings_kept told d kept) refl e
