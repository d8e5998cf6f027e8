-- A second example: the same card, with calls made while writes wait, and attaches to what the supply leaves of it.
use Rattle.std.specs.Prelude.{◌≡◌, List, [], ◌∷◌, ◌++◌, replicate, Ok, Err, slice_set}
use Rattle.layout.specs.Entries.{entry_of}
use Rattle.layout.specs.Names.{padded}
use Rattle.layout.specs.declared.refusal.Refusal.TheVariants.{MalformedName, NoSuchName, NameExists, NameLeaving, OutOfRange, WrongLength, NoSuchBlock, NotDue, UnderWay, NoneWaiting, NotAttached, AlreadyAttached, BadMap}
use Rattle.device.specs.Meaning.{Meaning}
use Rattle.rules.specs.States.{State, unattached, attached}
use Rattle.rules.specs.Changes.{landing}
use Rattle.rules.specs.Calls.{next, copied, get, look, write}
use Rattle.rules.specs.Acts.{Make, Link, Remove, Put, Trim, Write, Collect, Made, InSlot, InBlock, Done, act}
use Rattle.rules.specs.Attach.{call, started, attach, end}
use Rattle.rules.specs.Example.{Line, asks, shows, played, A, B, C, card}

-- the state after the calls of some lines
unfoldable pub reached : State → List Line → State
reached st [] = st
reached st (asks c a ∷ ls) = reached (next st (act st c)) ls
reached st (shows b k bytes ∷ ls) = reached st ls

-- a file is made, and its inode lands
abbrev pub born : List Line
born =
    asks (Make A) (Ok (Made 1 0))
    ∷ asks (Write 1) (Ok Done)
    ∷ asks (Collect 1) (Ok (InBlock 1))
    ∷ asks (Write 3) (Ok Done)
    ∷ asks (Write 4) (Err NotDue)
    ∷ asks (Collect 3) (Ok (InBlock 3))
    ∷ []

-- its name is on the way
abbrev pub sent : List Line
sent = asks (Write 4) (Ok Done) ∷ []

-- the file is removed while its name is under way: the name is leaving until no standing copy has it, the inode goes after the name, its mark after
-- the inode, and another file takes other numbers meanwhile
abbrev pub removed : List Line
removed =
    asks (Remove A) (Ok Done)
    ∷ asks (Make A) (Err NameLeaving)
    ∷ asks (Write 3) (Err NotDue)
    ∷ asks (Collect 4) (Ok (InBlock 4))
    ∷ asks (Write 4) (Ok Done)
    ∷ asks (Make B) (Ok (Made 2 1))
    ∷ asks (Write 3) (Err NotDue)
    ∷ shows 1 0 (0x07 ∷ [])
    ∷ asks (Collect 4) (Ok (InBlock 4))
    ∷ shows 3 16 (replicate 16 0)
    ∷ asks (Write 3) (Ok Done)
    ∷ shows 1 0 (0x07 ∷ [])
    ∷ asks (Collect 3) (Ok (InBlock 3))
    ∷ shows 1 0 (0x05 ∷ [])
    ∷ asks (Write 1) (Ok Done)
    ∷ asks (Collect 1) (Ok (InBlock 1))
    ∷ asks (Write 3) (Ok Done)
    ∷ asks (Collect 3) (Ok (InBlock 3))
    ∷ asks (Write 4) (Ok Done)
    ∷ asks (Collect 4) (Ok (InBlock 4))
    ∷ []

-- a part is given and overwritten, also while a write of its block waits; its pointer waits for bytes that have landed
abbrev pub overwritten : List Line
overwritten =
    asks (Put B 1 (replicate 64 7)) (Ok (InBlock 5))
    ∷ shows 5 0 (7 ∷ 7 ∷ [])
    ∷ asks (Put B 1 (replicate 64 9)) (Ok (InBlock 5))
    ∷ shows 5 0 (9 ∷ 9 ∷ [])
    ∷ asks (Write 2) (Ok Done)
    ∷ asks (Collect 2) (Ok (InBlock 2))
    ∷ asks (Write 5) (Ok Done)
    ∷ asks (Write 3) (Err NotDue)
    ∷ asks (Put B 1 (replicate 64 8)) (Ok (InBlock 5))
    ∷ asks (Write 5) (Err UnderWay)
    ∷ asks (Collect 5) (Ok (InBlock 5))
    ∷ asks (Write 5) (Ok Done)
    ∷ asks (Collect 5) (Ok (InBlock 5))
    ∷ asks (Put B 1 (replicate 64 8)) (Ok (InBlock 5))
    ∷ asks (Write 5) (Err NotDue)
    ∷ asks (Write 3) (Ok Done)
    ∷ asks (Collect 3) (Ok (InBlock 3))
    ∷ []

-- a part is trimmed and given anew: the old pointer stands until the new block is ready, and the old block's mark until no copy points to it
abbrev pub exchanged : List Line
exchanged =
    asks (Put B 0 (replicate 64 6)) (Ok (InBlock 6))
    ∷ asks (Trim B 1) (Ok Done)
    ∷ shows 2 0 (0x7f ∷ [])
    ∷ asks (Put B 1 (replicate 64 5)) (Ok (InBlock 7))
    ∷ asks (Write 2) (Ok Done)
    ∷ asks (Collect 2) (Ok (InBlock 2))
    ∷ shows 3 36 (0 ∷ 0 ∷ 5 ∷ 0 ∷ [])
    ∷ asks (Write 7) (Ok Done)
    ∷ asks (Collect 7) (Ok (InBlock 7))
    ∷ shows 3 36 (0 ∷ 0 ∷ 7 ∷ 0 ∷ [])
    ∷ asks (Write 3) (Ok Done)
    ∷ shows 2 0 (0xff ∷ [])
    ∷ asks (Collect 3) (Ok (InBlock 3))
    ∷ shows 2 0 (0xdf ∷ [])
    ∷ asks (Write 2) (Ok Done)
    ∷ asks (Collect 2) (Ok (InBlock 2))
    ∷ []

-- a second name; and calls with two things wrong, of which the first in the order of the checks is told
abbrev pub checked : List Line
checked =
    asks (Link B C) (Ok (InSlot 0))
    ∷ asks (Link B C) (Err NameExists)
    ∷ asks (Link A []) (Err MalformedName)
    ∷ asks (Link A B) (Err NoSuchName)
    ∷ asks (Put A 6 []) (Err NoSuchName)
    ∷ asks (Put B 6 []) (Err OutOfRange)
    ∷ asks (Put B 0 []) (Err WrongLength)
    ∷ asks (Trim B 6) (Err OutOfRange)
    ∷ asks (Write 8) (Err NoSuchBlock)
    ∷ asks (Collect 0) (Err NoneWaiting)
    ∷ []

-- the second name goes while it is under way: it counts, and is leaving, until no standing copy has it
abbrev pub unlinked : List Line
unlinked =
    shows 3 34 (2 ∷ 0 ∷ [])
    ∷ asks (Write 3) (Ok Done)
    ∷ asks (Collect 3) (Ok (InBlock 3))
    ∷ asks (Write 4) (Ok Done)
    ∷ asks (Remove C) (Ok Done)
    ∷ shows 3 34 (2 ∷ 0 ∷ [])
    ∷ asks (Make C) (Err NameLeaving)
    ∷ asks (Collect 4) (Ok (InBlock 4))
    ∷ asks (Write 4) (Ok Done)
    ∷ shows 3 34 (2 ∷ 0 ∷ [])
    ∷ asks (Make C) (Err NameLeaving)
    ∷ asks (Collect 4) (Ok (InBlock 4))
    ∷ shows 3 34 (1 ∷ 0 ∷ [])
    ∷ []

-- a file is made and removed while its inode is under way, and a part is trimmed while its pointer is: the marks stay until no copy needs them
abbrev pub withdrawn : List Line
withdrawn =
    asks (Make A) (Ok (Made 1 0))
    ∷ asks (Write 1) (Ok Done)
    ∷ asks (Collect 1) (Ok (InBlock 1))
    ∷ asks (Write 3) (Ok Done)
    ∷ asks (Remove A) (Ok Done)
    ∷ shows 1 0 (0x07 ∷ [])
    ∷ asks (Collect 3) (Ok (InBlock 3))
    ∷ asks (Write 6) (Ok Done)
    ∷ asks (Collect 6) (Ok (InBlock 6))
    ∷ asks (Write 3) (Ok Done)
    ∷ asks (Trim B 0) (Ok Done)
    ∷ shows 2 0 (0xdf ∷ [])
    ∷ asks (Collect 3) (Ok (InBlock 3))
    ∷ asks (Write 3) (Ok Done)
    ∷ asks (Collect 3) (Ok (InBlock 3))
    ∷ shows 3 36 (0 ∷ 0 ∷ 0 ∷ 0 ∷ [])
    ∷ shows 2 0 (0x1f ∷ [])
    ∷ shows 1 0 (0x05 ∷ [])
    ∷ []

-- all of it, one after the other
abbrev pub busy : List Line
busy = born ++ sent ++ removed ++ overwritten ++ exchanged ++ checked ++ unlinked ++ withdrawn

-- the device after some lines
unfoldable pub left : List Line → Meaning
left ls = (reached (started card) ls).device

-- what a store finds that attaches before the name was sent: an inode without a name is no file, and goes
abbrev pub nameless : List Line
nameless =
    asks (Remove A) (Err NoSuchName)
    ∷ asks (Make B) (Ok (Made 2 0))
    ∷ shows 1 0 (0x07 ∷ [])
    ∷ shows 3 16 (replicate 16 0)
    ∷ asks (Write 3) (Ok Done)
    ∷ asks (Collect 3) (Ok (InBlock 3))
    ∷ shows 1 0 (0x05 ∷ [])
    ∷ []

-- what it finds once the name has landed: the file, without parts
abbrev pub named : List Line
named =
    asks (Make A) (Err NameExists)
    ∷ asks (Write 4) (Err NotDue)
    ∷ asks (Put A 0 (replicate 64 1)) (Ok (InBlock 5))
    ∷ shows 5 0 (1 ∷ 1 ∷ [])
    ∷ asks (Write 3) (Err NotDue)
    ∷ []

-- what it finds of a file with a part: its block is filled, so nothing is due
abbrev pub filed : List Line
filed =
    asks (Write 5) (Err NotDue)
    ∷ asks (Write 3) (Err NotDue)
    ∷ shows 3 36 (0 ∷ 0 ∷ 5 ∷ 0 ∷ [])
    ∷ shows 5 0 (8 ∷ 8 ∷ [])
    ∷ asks (Put B 0 (replicate 64 1)) (Ok (InBlock 6))
    ∷ []

-- the state when a file has a part, and what it holds
unfoldable pub holding : State
holding = reached (started card) (born ++ sent ++ removed ++ overwritten)

-- a device whose inode map marks nothing, not even inode 0
unfoldable pub spoilt : Meaning
spoilt = record { medium = slice_set card.medium 1 (replicate 64 0); waiting = []; size = 8; depth = 8 }

-- a part that is given and taken before anything is sent: its block is sent as it stands, and so is one whose part went; then the file goes
abbrev pub taken : List Line
taken =
    asks (Put B 0 (replicate 64 1)) (Ok (InBlock 6))
    ∷ asks (Trim B 0) (Ok Done)
    ∷ shows 6 0 (0 ∷ 0 ∷ [])
    ∷ shows 5 0 (8 ∷ 8 ∷ [])
    ∷ asks (Remove B) (Ok Done)
    ∷ shows 5 0 (8 ∷ 8 ∷ [])
    ∷ asks (Make B) (Err NameLeaving)
    ∷ []

-- the state with one more part, of which nothing has been sent
unfoldable pub unsent : State
unsent = reached holding (asks (Put B 0 (replicate 64 1)) (Ok (InBlock 6)) ∷ [])

-- every line holds, and a store attaches where the supply failed: before the name was sent, while it waited, and when the part was there
pub record BusyExample : Type 0 where
  pub holds : played (started card) busy ≡ busy
  pub attaches : attach (unattached (left born)) [] ≡ record { answer = Ok tt; after = attached (started (left born)) }
  pub finds : played (started (left born)) nameless ≡ nameless
  pub lands : attach (unattached (left (born ++ sent))) (4 ∷ []) ≡ record { answer = Ok tt; after = attached (started (landing (left (born ++ sent)) 4)) }
  pub finds_name : played (started (landing (left (born ++ sent)) 4)) named ≡ named
  pub attaches_again : attach (unattached (left (born ++ sent ++ removed ++ overwritten))) []
      ≡ record { answer = Ok tt; after = attached (started (left (born ++ sent ++ removed ++ overwritten))) }
  pub finds_part : played (started (left (born ++ sent ++ removed ++ overwritten))) filed ≡ filed
  -- an attached store is not attached again, and an unsound medium leaves the store as it was
  pub stays : attach (attached unsent) [] ≡ record { answer = Err AlreadyAttached; after = attached unsent }
  pub refuses : attach (unattached spoilt) [] ≡ record { answer = Err (BadMap (record { block = 1; byte = 0 })); after = unattached spoilt }
  -- get and look tell what the view has, and the first that is wrong
  pub gets : get holding B 1 64 ≡ Ok (replicate 64 8)
  pub gets_zeros : get holding B 0 64 ≡ Ok (replicate 64 0)
  pub gets_unsent : get unsent B 0 64 ≡ Ok (replicate 64 1)
  pub gets_last : get holding B 5 64 ≡ Ok (replicate 64 0)
  pub gets_no_part : get holding B 6 63 ≡ Err OutOfRange
  pub gets_no_buffer : get holding B 1 63 ≡ Err WrongLength
  pub looks : look holding 1 ≡ Ok (entry_of 2 (padded B))
  pub looks_past : look holding 4 ≡ Err OutOfRange
  -- end counts what is due or under way: after a put the part's block and the block map, also while the map waits; and a name that waits
  pub counts : (end (attached unsent)).0 ≡ 2
  pub counts_waiting : (end (attached (reached holding (asks (Put B 0 (replicate 64 1)) (Ok (InBlock 6)) ∷ asks (Write 2) (Ok Done) ∷ [])))).0 ≡ 2
  pub counts_name : (end (attached (reached (started card) (born ++ sent ++ asks (Remove A) (Ok Done) ∷ [])))).0 ≡ 1
  -- and gives the device back
  pub gives_back : (end (attached unsent)).1 ≡ unsent.device
  pub gives_back_unattached : end (unattached card) ≡ (0, card)
  -- a refused call leaves the store, attached or not, and the caller's buffer
  pub leaves : call (λ st. write st 8) (attached holding) ≡ record { answer = Err NoSuchBlock; after = attached holding }
  pub leaves_unattached : call (λ st. write st 8) (unattached card) ≡ record { answer = Err NotAttached; after = unattached card }
  pub leaves_buffer : copied (Err OutOfRange) (5 ∷ []) ≡ 5 ∷ []
  pub fills_buffer : copied (Ok (1 ∷ [])) (5 ∷ []) ≡ 1 ∷ []
  pub takes : played holding taken ≡ taken
