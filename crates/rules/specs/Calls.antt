-- The calls of a store: each is one function from the state and its arguments to a refusal, or to an answer and the changes that it makes.
use Rattle.std.specs.Prelude.{ℕ, zero, suc, ◌+◌, ◌-◌, Bool, true, false, cond, not, List, [], ◌∷◌, length, replicate, is_some, Some, None, Ok, Err, Option, Result, ◌==◌, nat_lt}
use Rattle.blocks.specs.Bytes.{Block}
use Rattle.layout.specs.declared.refusal.Refusal.{Refusal}
use Rattle.layout.specs.declared.refusal.Refusal.TheVariants.{MalformedName, NoSuchName, NameExists, NameLeaving, OutOfRange, WrongLength, NoSuchBlock}
use Rattle.layout.specs.declared.refusal.Refusal.TheVariants.{NoFreeInode, NoFreeSlot, NoFreeBlock, NotDue, UnderWay, NoneWaiting, DeviceFull}
use Rattle.layout.specs.Shapes.{slots}
use Rattle.layout.specs.Entries.{target}
use Rattle.layout.specs.Names.{proper}
use Rattle.device.specs.Meaning.{waits}
use Rattle.rules.specs.Views.{slot_of, part_of, bytes_of}
use Rattle.rules.specs.States.{State}
use Rattle.rules.specs.Images.{due}
use Rattle.rules.specs.Free.{next_inode, next_slot, next_block, find, name_stands}
use Rattle.rules.specs.Changes.{Change, submit, land, create, add_name, drop_name, give, overwrite, take, after}

-- an accepted call: its answer, and the changes that it makes, in order
pub record Accepted (A : Type 0) : Type 0 where
  pub answer : A
  pub changes : List Change

-- what a call comes to
abbrev pub Outcome : Type 0 → Type 0
Outcome A = Result (Accepted A) Refusal

-- accepted, with this answer, by these changes
abbrev pub accept : {A : Type 0} → A → List Change → Outcome A
accept a cs = Ok (record { answer = a; changes = cs })

-- what the caller is told
abbrev pub answer : {A : Type 0} → Outcome A → Result A Refusal
answer (Ok d) = Ok d.answer
answer (Err r) = Err r

-- the changes that were made: none where the call was refused
abbrev pub changes : {A : Type 0} → Outcome A → List Change
changes (Ok d) = d.changes
changes (Err r) = []

-- the state afterwards
abbrev pub next : {A : Type 0} → State → Outcome A → State
next st o = after st (changes o)

-- a check: refused unless the test holds
abbrev pub check : {A : Type 0} → Bool → Refusal → Result A Refusal → Result A Refusal
check true r rest = rest
check false r rest = Err r

-- a check: refused unless there is a number, with which the call goes on
abbrev pub need : {A : Type 0} → Option ℕ → Refusal → (ℕ → Result A Refusal) → Result A Refusal
need (Some n) r rest = rest n
need None r rest = Err r

-- the file that slot s names in the view
abbrev pub file_at : State → ℕ → ℕ
file_at st s = target (slot_of st.view s)

-- the checks of a new name: the view lacks it, and it is not leaving
unfoldable pub check_new : {A : Type 0} → State → List ℕ → Result A Refusal → Result A Refusal
check_new st name rest =
    check (not (is_some (find st name))) NameExists
    (check (not (name_stands st name)) NameLeaving
    rest)

-- the checks of a call on a named file, which goes on with the slot of the name
unfoldable pub check_named : {A : Type 0} → State → List ℕ → (ℕ → Result A Refusal) → Result A Refusal
check_named st name rest =
    check (proper name) MalformedName
    (need (find st name) NoSuchName rest)

-- make: a new file
unfoldable pub make : State → List ℕ → Outcome (ℕ × ℕ)
make st name =
    check (proper name) MalformedName
    (check_new st name
    (need (next_inode st) NoFreeInode λ i.
    need (next_slot st) NoFreeSlot λ s.
    accept (i, s) (create i s name ∷ [])))

-- the checks of link and rename, which go on with the slot of the old name and a free one
unfoldable pub check_names : {A : Type 0} → State → (old new : List ℕ) → (ℕ → ℕ → Result A Refusal) → Result A Refusal
check_names st old new rest =
    check (proper old) MalformedName
    (check (proper new) MalformedName
    (need (find st old) NoSuchName λ o.
    check_new st new
    (need (next_slot st) NoFreeSlot (rest o))))

-- link: one more name for the file that has the old one
unfoldable pub link : State → (old new : List ℕ) → Outcome ℕ
link st old new = check_names st old new λ o s. accept s (add_name (file_at st o) s new ∷ [])

-- rename: the new name comes, and the old one goes
unfoldable pub rename : State → (old new : List ℕ) → Outcome ℕ
rename st old new = check_names st old new λ o s. accept s (add_name (file_at st o) s new ∷ drop_name o ∷ [])

-- remove: the name goes, and the file with its last name
unfoldable pub remove : State → List ℕ → Outcome (Unit {0})
remove st name = check_named st name λ s. accept tt (drop_name s ∷ [])

-- bytes for part k of file i: it is given a block where it has none
unfoldable pub put_part : State → ℕ → ℕ → Block → Outcome ℕ
put_part st i k bytes =
    let b = part_of st.view i k in
    cond (b == 0)
    (need (next_block st) NoFreeBlock λ n. accept n (give i k n bytes ∷ []))
    (accept b (overwrite i k bytes ∷ []))

-- put: bytes for a part
unfoldable pub put : State → List ℕ → ℕ → List ℕ → Outcome ℕ
put st name k bytes =
    check_named st name λ s.
    check (nat_lt k 6) OutOfRange
    (check (length bytes == 64) WrongLength
    (put_part st (file_at st s) k bytes))

-- n parts of file i, from part k on, lose their blocks
unfoldable pub takes : (i k n : ℕ) → List Change
takes i k zero = []
takes i k (suc n) = take i k ∷ takes i (k + 1) n

-- trim: part k and all later ones lose their blocks
unfoldable pub trim : State → List ℕ → ℕ → Outcome (Unit {0})
trim st name k =
    check_named st name λ s.
    check (nat_lt k 6) OutOfRange
    (accept tt (takes (file_at st s) k (6 - k)))

-- the bytes of part k of file i: zeros where it has no block
unfoldable pub part_bytes : State → ℕ → ℕ → Block
part_bytes st i k =
    let b = part_of st.view i k in
    cond (b == 0) (replicate 64 0) (bytes_of st.view b)

-- get: the bytes of a part, for a buffer of this length
unfoldable pub get : State → List ℕ → ℕ → ℕ → Result Block Refusal
get st name k size =
    check_named st name λ s.
    check (nat_lt k 6) OutOfRange
    (check (size == 64) WrongLength
    (Ok (part_bytes st (file_at st s) k)))

-- the caller's buffer after a get: a refusal leaves it as it was
abbrev pub copied : Result Block Refusal → List ℕ → List ℕ
copied (Ok bytes) buffer = bytes
copied (Err r) buffer = buffer

-- look: what slot s of the view holds
unfoldable pub look : State → ℕ → Result (List ℕ) Refusal
look st s = check (nat_lt s (slots st.shape)) OutOfRange (Ok (slot_of st.view s))

-- write: the image of block b is sent
unfoldable pub write : State → ℕ → Outcome (Unit {0})
write st b =
    check (nat_lt b st.shape.blocks) NoSuchBlock
    (check (not (waits st.device.waiting b)) UnderWay
    (check (due st b) NotDue
    (check (nat_lt (length st.device.waiting) st.device.depth) DeviceFull
    (accept tt (submit b ∷ [])))))

-- collect: the waiting write of block b, which the device has chosen, lands
unfoldable pub collect : State → ℕ → Outcome ℕ
collect st b = check (waits st.device.waiting b) NoneWaiting (accept b (land b ∷ []))
