-- A worked example: one file on a card of 8 blocks, from its making to its removal, as one list of lines that all hold.
use Rattle.std.specs.Prelude.{◌≡◌, ℕ, List, [], ◌∷◌, ◌++◌, length, replicate, Ok, Err, Result}
use Rattle.blocks.specs.Bytes.{part}
use Rattle.blocks.specs.Images.{image_blocks}
use Rattle.layout.specs.declared.refusal.Refusal.{Refusal}
use Rattle.layout.specs.declared.refusal.Refusal.TheVariants.{NameLeaving, NotDue}
use Rattle.layout.specs.Fresh.{prepared}
use Rattle.device.specs.Meaning.{Meaning}
use Rattle.rules.specs.States.{State, unattached, attached}
use Rattle.rules.specs.Images.{image}
use Rattle.rules.specs.Calls.{answer, next}
use Rattle.rules.specs.Acts.{Call, Make, Rename, Remove, Put, Write, Collect, Answer, Made, InSlot, InBlock, Done, act}
use Rattle.rules.specs.Attach.{started, attach}

-- a line of the example
pub data Line : Type 0 where
  -- a call is made, and answers so
  asks : Call → Result Answer Refusal → Line
  -- the image of block b has these bytes from byte k on
  shows : (b k : ℕ) → List ℕ → Line

-- the same lines, with what the rules answer and show, one after the other
unfoldable pub played : State → List Line → List Line
played st [] = []
played st (asks c a ∷ ls) = asks c (answer (act st c)) ∷ played (next st (act st c)) ls
played st (shows b k bytes ∷ ls) = shows b k (part (image st b) k (length bytes)) ∷ played st ls

-- the names A, B and C
abbrev pub A : List ℕ
A = 65 ∷ []

abbrev pub B : List ℕ
B = 66 ∷ []

abbrev pub C : List ℕ
C = 67 ∷ []

abbrev pub lines : List Line
lines =
    -- a file is made; its name waits for its inode, and the inode for its mark
    asks (Make A) (Ok (Made 1 0))
    ∷ asks (Write 4) (Err NotDue)
    ∷ shows 1 0 (0x03 ∷ [])
    ∷ asks (Write 1) (Ok Done)
    ∷ asks (Collect 1) (Ok (InBlock 1))
    ∷ shows 3 16 (1 ∷ 0 ∷ 1 ∷ 0 ∷ [])
    ∷ asks (Write 3) (Ok Done)
    ∷ asks (Collect 3) (Ok (InBlock 3))
    ∷ shows 4 0 (1 ∷ 0 ∷ 0x41 ∷ [])
    ∷ asks (Write 4) (Ok Done)
    ∷ asks (Collect 4) (Ok (InBlock 4))
    -- a part is given a block; the pointer waits for the mark and for the bytes
    ∷ asks (Put A 0 (replicate 64 7)) (Ok (InBlock 5))
    ∷ shows 2 0 (0x3f ∷ [])
    ∷ asks (Write 2) (Ok Done)
    ∷ asks (Collect 2) (Ok (InBlock 2))
    ∷ asks (Write 3) (Err NotDue)
    ∷ asks (Write 5) (Ok Done)
    ∷ asks (Collect 5) (Ok (InBlock 5))
    ∷ shows 3 20 (5 ∷ 0 ∷ [])
    ∷ asks (Write 3) (Ok Done)
    ∷ asks (Collect 3) (Ok (InBlock 3))
    -- a rename: the link count rises, both names stand, then the old one goes, and the link count falls
    ∷ asks (Rename A B) (Ok (InSlot 1))
    ∷ shows 3 18 (2 ∷ 0 ∷ [])
    ∷ asks (Write 4) (Err NotDue)
    ∷ asks (Write 3) (Ok Done)
    ∷ asks (Collect 3) (Ok (InBlock 3))
    ∷ shows 4 0 (1 ∷ 0 ∷ 0x41 ∷ 0 ∷ [])
    ∷ shows 4 16 (1 ∷ 0 ∷ 0x42 ∷ 0 ∷ [])
    ∷ asks (Make A) (Err NameLeaving)
    ∷ asks (Write 4) (Ok Done)
    ∷ asks (Collect 4) (Ok (InBlock 4))
    ∷ shows 4 0 (replicate 16 0 ++ 1 ∷ 0 ∷ 0x42 ∷ 0 ∷ [])
    ∷ asks (Write 4) (Ok Done)
    ∷ asks (Collect 4) (Ok (InBlock 4))
    ∷ shows 3 18 (1 ∷ 0 ∷ [])
    ∷ asks (Write 3) (Ok Done)
    ∷ asks (Collect 3) (Ok (InBlock 3))
    -- the file is removed: its inode waits for its name to go, and its number for the inode
    ∷ asks (Remove B) (Ok Done)
    ∷ asks (Write 3) (Err NotDue)
    ∷ asks (Write 4) (Ok Done)
    ∷ asks (Collect 4) (Ok (InBlock 4))
    ∷ shows 3 16 (replicate 16 0)
    ∷ asks (Make C) (Ok (Made 2 0))
    ∷ []

-- a device of depth 8 with an empty card of 8 blocks, 4 inodes and 1 directory block, and nothing waiting
abbrev pub card : Meaning
card =
    record {
      medium = image_blocks 8 (prepared (record { blocks = 8; inodes = 4; directory = 1 }) (replicate 512 0));
      waiting = [];
      size = 8;
      depth = 8;
    }

-- a store attaches to that card, and every line holds
pub record WorkedExample : Type 0 where
  pub attaches : attach (unattached card) [] ≡ record { answer = Ok tt; after = attached (started card) }
  pub holds : played (started card) lines ≡ lines
