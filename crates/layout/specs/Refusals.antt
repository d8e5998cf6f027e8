-- The number of each refusal, and where a medium is at fault.
use Rattle.std.specs.Prelude.{ℕ, Some, None, Option}
use Rattle.layout.specs.declared.refusal.Place.{Place}
use Rattle.layout.specs.declared.refusal.Refusal.{Refusal}
use Rattle.layout.specs.declared.refusal.Refusal.TheVariants.{MalformedName, NoSuchName, NameExists, NameLeaving, OutOfRange, WrongLength, NoSuchBlock, BadGeometry, NotAttached, AlreadyAttached}
use Rattle.layout.specs.declared.refusal.Refusal.TheVariants.{NoFreeInode, NoFreeSlot, NoFreeBlock, NotDue, UnderWay, NoneWaiting, DeviceFull}
use Rattle.layout.specs.declared.refusal.Refusal.TheVariants.{BadSize, BadMagic, BadVersion, BadHead, BadMap, BadInode, BadPointer, BadSlot, NameTwice, FewLinks}

-- the number that a host, a store, a device or a medium at fault is told by
abbrev pub number : Refusal → ℕ
number MalformedName = 1
number NoSuchName = 2
number NameExists = 3
number NameLeaving = 4
number OutOfRange = 5
number WrongLength = 6
number NoSuchBlock = 7
number BadGeometry = 8
number NotAttached = 9
number AlreadyAttached = 10
number NoFreeInode = 11
number NoFreeSlot = 12
number NoFreeBlock = 13
number NotDue = 14
number UnderWay = 15
number NoneWaiting = 16
number DeviceFull = 17
number (BadSize p) = 20
number (BadMagic p) = 21
number (BadVersion p) = 22
number (BadHead p) = 23
number (BadMap p) = 24
number (BadInode p) = 25
number (BadPointer p) = 26
number (BadSlot p) = 27
number (NameTwice p) = 28
number (FewLinks p) = 29

-- where a medium is at fault; the other refusals have no place
abbrev pub place : Refusal → Option Place
place MalformedName = None
place NoSuchName = None
place NameExists = None
place NameLeaving = None
place OutOfRange = None
place WrongLength = None
place NoSuchBlock = None
place BadGeometry = None
place NotAttached = None
place AlreadyAttached = None
place NoFreeInode = None
place NoFreeSlot = None
place NoFreeBlock = None
place NotDue = None
place UnderWay = None
place NoneWaiting = None
place DeviceFull = None
place (BadSize p) = Some p
place (BadMagic p) = Some p
place (BadVersion p) = Some p
place (BadHead p) = Some p
place (BadMap p) = Some p
place (BadInode p) = Some p
place (BadPointer p) = Some p
place (BadSlot p) = Some p
place (NameTwice p) = Some p
place (FewLinks p) = Some p
