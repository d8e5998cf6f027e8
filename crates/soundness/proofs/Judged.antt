-- The law: the verdict names no fault exactly when the medium is sound.
use Rattle.std.proofs.Common.{◌≡◌, ℕ, ◌<◌, true, not, is_some, is_ok, IfOk, Some, None, Ok, Err, Decides, Option, Result, sym, refl, ap, ◌∙◌, subst, arith}
use Rattle.std.specs.Result.{result_err}
use Rattle.blocks.specs.Bits.{bit}
use Rattle.layout.specs.declared.refusal.Refusal.{Refusal}
use Rattle.layout.specs.declared.geometry.Geometry.{Geometry}
use Rattle.layout.specs.declared.geometry.Shape.{Shape}
use Rattle.layout.specs.Shapes.{Good}
use Rattle.layout.specs.Heads.{head_shape}
use Rattle.soundness.specs.Media.{Medium, block}
use Rattle.soundness.specs.Verdict.{body_verdict, verdict}
use Rattle.soundness.specs.Sound.{SoundAt, Sound, VerdictIsRight, PreparedIsSound}
use Rattle.soundness.proofs.Cleared.{Clears, clears_first, clears_like, clears_decides}
use Rattle.soundness.proofs.HeadLaws.{Headed, headed_shape, clears_head}
use Rattle.soundness.proofs.MapLaws.{Maps, clears_maps}
use Rattle.soundness.proofs.InodeLaws.{Inodes, Counted, clears_inodes, clears_links}
use Rattle.soundness.proofs.PointerLaws.{Pointers, OneOwner, clears_pointers}
use Rattle.soundness.proofs.SlotLaws.{Entries, OneName, clears_slots, clears_names}
use Rattle.soundness.proofs.PreparedLaws.{prepared_is_sound}

module _ (g : Shape) (m : Medium) where
  -- what the tests of the blocks after the head ask, in their order
  abbrev Body : Type 0
  Body = Maps g m × (Inodes g m × ((Pointers g m × OneOwner g m) × (Entries g m × (OneName g m × Counted g m))))

  clears_body : Good g → Clears (body_verdict g m) Body
  clears_body good =
      clears_first _ _ (clears_maps g m good) (λ _.
      clears_first _ _ (clears_inodes g m) (λ _.
      clears_first _ _ (clears_pointers g m) (λ _.
      clears_first _ _ (clears_slots g m) (λ entries.
      clears_first _ _ (clears_names g m entries) (λ _.
      clears_links g m)))))

  body_sound : Good g → Headed (block m 0) g → Body → SoundAt g m
  body_sound good headed b =
      record {
        good = good;
        headed = headed;
        root_marked = (b.0.0 0 (omega arith)).0 (omega arith);
        no_inode_marked = λ i l h. (b.0.0 i h).1 l;
        fixed_marked = λ k h. (b.0.1 k (omega arith)).0 h;
        no_block_marked = λ k l h. (b.0.1 k h).1 l;
        inodes = b.1.0;
        pointers = b.1.1.0.0;
        one_owner = b.1.1.0.1;
        entries = b.1.1.1.0;
        one_name = b.1.1.1.1.0;
        counted = b.1.1.1.1.1;
      }

  sound_body : SoundAt g m → Body
  sound_body s = (
    ((λ i h. (root i, λ l. s.no_inode_marked i l h)), (λ b h. (s.fixed_marked b, λ l. s.no_block_marked b l h))),
    (s.inodes, ((s.pointers, s.one_owner), (s.entries, (s.one_name, s.counted)))),
  )
    where
      root : (i : ℕ) → i < 1 → bit (block m 1) i ≡ true
      root i l = let e : i ≡ 0 = omega arith in ap (bit (block m 1)) e ∙ s.root_marked

module _ (m : Medium) (size : ℕ) where
  abbrev told : Shape
  told = head_shape (block m 0)

  -- a medium is sound at no other geometry than the one that its head tells
  sound_told : Sound m size → (told.blocks ≡ size) × SoundAt told m
  sound_told s =
      let e = headed_shape (block m 0) s.shape s.sound.good s.sound.headed in
      (ap (λ (g : Shape). g.blocks) e ∙ s.sized, subst (λ (g : Shape). SoundAt g m) (sym e) s.sound)

  clears_verdict : Clears (verdict m size) (Sound m size)
  clears_verdict =
      clears_like (verdict m size)
      (λ f. record { shape = told; sized = f.0.0; sound = body_sound told m f.0.1 f.0.2 f.1 })
      (λ s. let here = sound_told s in ((here.0, here.1.good, here.1.headed), sound_body told m here.1))
      (clears_first _ _ (clears_head (block m 0) size) (λ t. clears_body told m t.1))

pub verdict_is_right : VerdictIsRight
verdict_is_right m size = clears_decides (verdict m size) (clears_verdict m size)

-- what an answer says that tells the verdict
module _ (m : Medium) (size : ℕ) where
  abbrev Judged : Result Geometry Refusal → Type 0
  Judged r = record {
    value : result_err r ≡ verdict m size;
    sound : Decides (is_ok r) (Sound m size);
    geometry : IfOk r (λ g. SoundAt g.shape m);
    verdict_law : VerdictIsRight;
    prepared_law : PreparedIsSound;
  }

  decides : (o : Option Refusal) → o ≡ verdict m size → Decides (not (is_some o)) (Sound m size)
  decides o e = subst (λ (told : Option Refusal). Decides (not (is_some told)) (Sound m size)) (sym e) (verdict_is_right m size)

  -- an accepted medium is sound at the geometry that is answered
  pub judged : (r : Result Geometry Refusal) → result_err r ≡ verdict m size → IfOk r (λ g. g.shape ≡ head_shape (block m 0)) → Judged r
  judged (Ok g) e is =
      let sound = decides None e in
      let at = subst (λ (s : Shape). SoundAt s m) (sym is) (sound_told m size (sound.0 refl)).1 in
      record { value = e; sound = sound; geometry = at; verdict_law = verdict_is_right; prepared_law = prepared_is_sound }
  judged (Err f) e is = record { value = e; sound = decides (Some f) e; geometry = tt; verdict_law = verdict_is_right; prepared_law = prepared_is_sound }
