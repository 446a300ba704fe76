-- The number of each refusal: that of the question to which the answer was no. Assumes nothing.
use Rattle.std.specs.Prelude.{ℕ}
use Rattle.refusals.specs.declared.Refusal.{Refusal}
use Rattle.refusals.specs.declared.Refusal.TheVariants.{Unknown, NoAddedWords, KeyLength, TagLength, MessageLength, Room, NoSlot, SlotEmpty, NoLane, LaneBusy, NotBegun, TagSize, Kind, Body, NumbersSpent, FrameLength, Version, Address, OldNumber, WrongTag, OrderInHand, NotInHand, OwnAddress}

abbrev pub number : Refusal → ℕ
number Unknown = 1
number NoAddedWords = 2
number KeyLength = 3
number TagLength = 4
number MessageLength = 5
number Room = 6
number NoSlot = 7
number SlotEmpty = 8
number NoLane = 9
number LaneBusy = 10
number NotBegun = 11
number TagSize = 12
number Kind = 13
number Body = 14
number NumbersSpent = 15
number FrameLength = 16
number Version = 17
number Address = 18
number OldNumber = 19
number WrongTag = 20
number OrderInHand = 21
number NotInHand = 22
number OwnAddress = 23
