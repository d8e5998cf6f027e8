-- States stay coherent: every change that may be made, and every call, keeps what an attach begins in.
use Rattle.std.proofs.Common.{◌≡◌, ℕ, suc, ◌<◌, true, false, not, List, [], ◌∷◌, length, get_or, set, replicate, is_some, Some, None, unwrap_or, Option, sym, refl, ap, ◌∙◌, arith, get_or-set_same}
use Rattle.std.proofs.lemmas.Bool.{and_parts, and_from, not-true, not_from_false, both_ways, true≢false, eqb-true, eq-eqb, cond_both}
use Rattle.std.proofs.lemmas.List.{length-set, length-append}
use Rattle.finite.specs.Finite.{every}
use Rattle.finite.proofs.Decided.{exists_at, exists_from}
use Rattle.finite.proofs.Tables.{length-table}
use Rattle.blocks.specs.Bytes.{Block}
use Rattle.layout.specs.declared.geometry.Shape.{Shape}
use Rattle.layout.specs.Shapes.{slots}
use Rattle.layout.specs.Entries.{empty, target, entry_of}
use Rattle.layout.specs.Names.{padded}
use Rattle.layout.proofs.Coded.{target_back}
use Rattle.device.proofs.Waits.{apart_push, inside_push}
use Rattle.rules.specs.Views.{View, no_entry, slot_of, has_file, pointers_of, part_of, with_slot, with_file, with_bytes}
use Rattle.rules.specs.States.{State, with_view}
use Rattle.rules.specs.References.{leads, view_leads}
use Rattle.rules.specs.Kinds.{entries}
use Rattle.rules.specs.Changes.{Change, outgoing, submit, land, create, add_name, drop_name, give, overwrite, take, created, kept_if_named, unnamed, with_part, landing, changed, after}
use Rattle.rules.specs.Calls.{changes, next}
use Rattle.rules.specs.Acts.{Call, act}
use Rattle.rules.specs.Allowed.{IsNamed, Allowed, AllAllowed, Sendable, Giveable}
use Rattle.rules.specs.Kept.{LeadsToFile, CoherentView, Coherent, StatesStayCoherent}
use Rattle.rules.proofs.Written.{after_set}
use Rattle.rules.proofs.Landings.{landing_kept}
use Rattle.rules.proofs.Allowed.{calls_are_changes}
use Rattle.rules.proofs.Begun.{SixParts, some_six, none_six, attach_coherent}

-- the entry of a name is 16 bytes
entry_long : (i : ℕ) (name : List ℕ) → length (entry_of i (padded name)) ≡ 16
unfolding padded
entry_long i name = ap (λ n. suc (suc n)) (length-table 14 (λ k. get_or name k 0))

-- an empty slot leads nowhere
no_entry_empty : empty no_entry ≡ true
unfolding every
no_entry_empty = refl

-- what is written into a view keeps it coherent
module _ {g : Shape} {v : View} (coherent : CoherentView g v) where
  -- a file with a name is one of the view's
  named_file : (i : ℕ) → view_leads (entries g) v i ≡ true → has_file v i ≡ true
  unfolding view_leads
  named_file i h =
      let found = exists_at (λ s. leads (entries g) i (slot_of v s)) (slots g) h in
      let parts = and_parts (not (empty (slot_of v found.0))) _ found.2 in
      ap (has_file v) (sym (eqb-true _ i parts.1)) ∙ coherent.led found.0 found.1 (not-true _ parts.0)

  six_pointers : (i : ℕ) → has_file v i ≡ true → length (pointers_of v i) ≡ 6
  six_pointers i h = of_file (get_or v.files i None) h (coherent.formed.six_parts i)
    where
      of_file : (f : Option (List ℕ)) → is_some f ≡ true → SixParts f → length (unwrap_or f []) ≡ 6
      of_file (Some p) h six = six p refl
      of_file None h six = absurd (true≢false (sym h))

  slot_coherent : (s : ℕ) (e : List ℕ) → length e ≡ 16 → LeadsToFile v e → CoherentView g (with_slot v s e)
  slot_coherent s e long leads =
      record {
        formed = record {
          slots_long = length-set v.slots s e ∙ coherent.formed.slots_long;
          slot_long = λ t h. after_set (λ x. length x ≡ 16) v.slots s t e no_entry (λ _. long) (coherent.formed.slot_long t h);
          files_long = coherent.formed.files_long;
          six_parts = coherent.formed.six_parts;
          bytes_long = coherent.formed.bytes_long;
          part_long = coherent.formed.part_long;
        };
        led = λ t h. after_set (LeadsToFile v) v.slots s t e no_entry (λ _. leads) (coherent.led t h);
      }

  name_coherent : (i s : ℕ) (name : List ℕ) → has_file v i ≡ true → CoherentView g (with_slot v s (entry_of i (padded name)))
  name_coherent i s name filed =
      slot_coherent s (entry_of i (padded name)) (entry_long i name) (λ _. ap (has_file v) (target_back i (padded name)) ∙ filed)

  file_coherent : (i : ℕ) (f : Option (List ℕ)) → SixParts f
      → ((s : ℕ) → s < slots g → LeadsToFile (with_file v i f) (slot_of v s)) → CoherentView g (with_file v i f)
  file_coherent i f six leads =
      record {
        formed = record {
          slots_long = coherent.formed.slots_long;
          slot_long = coherent.formed.slot_long;
          files_long = length-set v.files i f ∙ coherent.formed.files_long;
          six_parts = λ j. after_set SixParts v.files i j f None (λ _. six) (coherent.formed.six_parts j);
          bytes_long = coherent.formed.bytes_long;
          part_long = coherent.formed.part_long;
        };
        led = leads;
      }

  with_file_coherent : (i : ℕ) (p : List ℕ) → length p ≡ 6 → CoherentView g (with_file v i (Some p))
  with_file_coherent i p long =
      file_coherent i (Some p) (some_six p long)
      (λ s h used. after_set (λ x. is_some x ≡ true) v.files i (target (slot_of v s)) (Some p) None (λ _. refl) (coherent.led s h used))

  -- a file without a name may go
  without_file_coherent : (i : ℕ) → view_leads (entries g) v i ≡ false → CoherentView g (with_file v i None)
  unfolding view_leads
  without_file_coherent i unnamed =
      file_coherent i None none_six
      (λ s h used. after_set (λ x. is_some x ≡ true) v.files i (target (slot_of v s)) None None
      (λ q. absurd (both_ways _ unnamed (exists_from (λ t. leads (entries g) i (slot_of v t)) (slots g) s h
      (and_from (not (empty (slot_of v s))) _ (not_from_false _ used) (eq-eqb _ i q)))))
      (coherent.led s h used))

  bytes_coherent : (b : ℕ) (x : Block) → length x ≡ 64 → CoherentView g (with_bytes v b x)
  bytes_coherent b x long =
      record {
        formed = record {
          slots_long = coherent.formed.slots_long;
          slot_long = coherent.formed.slot_long;
          files_long = coherent.formed.files_long;
          six_parts = coherent.formed.six_parts;
          bytes_long = length-set v.bytes b x ∙ coherent.formed.bytes_long;
          part_long = λ c h. after_set (λ y. length y ≡ 64) v.bytes b c x [] (λ _. long) (coherent.formed.part_long c h);
        };
        led = coherent.led;
      }

  part_coherent : (i k b : ℕ) → has_file v i ≡ true → CoherentView g (with_part v i k b)
  part_coherent i k b filed = with_file_coherent i (set (pointers_of v i) k b) (length-set (pointers_of v i) k b ∙ six_pointers i filed)

module _ {g : Shape} {v : View} (coherent : CoherentView g v) where
  created_coherent : (i s : ℕ) (name : List ℕ) → i < g.inodes → CoherentView g (created v i s name)
  unfolding created
  created_coherent i s name within =
      let f : List ℕ = replicate 6 0 in
      name_coherent (with_file_coherent coherent i f refl) i s name (ap is_some (get_or-set_same v.files i (Some f) None (omega (arith, coherent.formed.files_long))))

  kept_coherent : (i : ℕ) → CoherentView g (kept_if_named g v i)
  unfolding kept_if_named
  kept_coherent i = cond_both (view_leads (entries g) v i) v (with_file v i None) (CoherentView g) (λ _. coherent) (without_file_coherent coherent i)

unnamed_coherent : {g : Shape} {v : View} (coherent : CoherentView g v) (s : ℕ) → CoherentView g (unnamed g v s)
unfolding unnamed
unnamed_coherent {v = v} coherent s =
    kept_coherent (slot_coherent coherent s no_entry refl (λ used. absurd (both_ways _ used no_entry_empty))) (target (slot_of v s))

-- changes
module _ {st : State} (coherent : Coherent st) where
  -- the view of a coherent state
  seen : CoherentView st.shape st.view
  seen = record { formed = coherent.formed.view; led = coherent.led }

  view_coherent : (v : View) → CoherentView st.shape v → Coherent (with_view st v)
  view_coherent v f =
      let formed = coherent.formed in
      record {
        formed = record { good = formed.good; view = f.formed; filled_long = formed.filled_long; kept = formed.kept; sized = formed.sized };
        led = f.led;
      }

  filed : (i : ℕ) → IsNamed st i → has_file st.view i ≡ true
  filed = named_file seen

  submit_coherent : (b : ℕ) → Sendable st b → Coherent (changed st (submit b))
  unfolding changed
  submit_coherent b a =
      let ws = st.device.waiting in
      let w = outgoing st b in
      let formed = coherent.formed in
      let kept = formed.kept in
      record {
        formed = record {
          good = formed.good;
          view = formed.view;
          filled_long = formed.filled_long;
          kept = record {
            long = kept.long;
            whole = kept.whole;
            distinct = apart_push ws w kept.distinct a.idle;
            within = inside_push st.device.size ws w kept.within (omega (arith, a.within, formed.sized));
            few = omega (arith, a.room, length-append ws (w ∷ []));
            some = kept.some;
            bound = kept.bound;
          };
          sized = formed.sized;
        };
        led = coherent.led;
      }

  land_coherent : (b : ℕ) → Coherent (changed st (land b))
  unfolding changed landing
  land_coherent b =
      let formed = coherent.formed in
      record {
        formed = record {
          good = formed.good;
          view = formed.view;
          filled_long = length-set st.filled b true ∙ formed.filled_long;
          kept = landing_kept st.device formed.kept b;
          sized = formed.sized;
        };
        led = coherent.led;
      }

  give_coherent : (i k b : ℕ) (bytes : Block) → Giveable st i k b bytes → Coherent (changed st (give i k b bytes))
  unfolding changed
  give_coherent i k b bytes a =
      let formed = coherent.formed in
      let view = bytes_coherent (part_coherent seen i k b (filed i a.part.named)) b bytes a.long in
      record {
        formed = record {
          good = formed.good;
          view = view.formed;
          filled_long = length-set st.filled b false ∙ formed.filled_long;
          kept = formed.kept;
          sized = formed.sized;
        };
        led = view.led;
      }

  change_coherent : (c : Change) → Allowed st c → Coherent (changed st c)
  unfolding changed
  change_coherent (submit b) a = submit_coherent b a
  change_coherent (land b) a = land_coherent b
  change_coherent (create i s name) a = view_coherent _ (created_coherent seen i s name a.within)
  change_coherent (add_name i s name) a = view_coherent _ (name_coherent seen i s name (filed i a.named))
  change_coherent (drop_name s) a = view_coherent _ (unnamed_coherent seen s)
  change_coherent (give i k b bytes) a = give_coherent i k b bytes a
  change_coherent (overwrite i k bytes) a = view_coherent _ (bytes_coherent seen (part_of st.view i k) bytes a.long)
  change_coherent (take i k) a = view_coherent _ (part_coherent seen i k 0 (filed i a.named))

-- lists of changes, and calls
after_coherent : (cs : List Change) (st : State) → Coherent st → AllAllowed st cs → Coherent (after st cs)
unfolding after
after_coherent [] st coherent a = coherent
after_coherent (c ∷ cs) st coherent a = after_coherent cs (changed st c) (change_coherent coherent c a.0) a.1

call_coherent : (st : State) (c : Call) → Coherent st → Coherent (next st (act st c))
call_coherent st c coherent = after_coherent (changes (act st c)) st coherent (calls_are_changes st c).allowed

pub states_stay_coherent : StatesStayCoherent
states_stay_coherent = record { change = λ st c coherent. change_coherent coherent c; call = call_coherent; attach = attach_coherent }
