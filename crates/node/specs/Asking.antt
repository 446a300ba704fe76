-- The questions of each call, in their order, by what it is handed and what it finds. Assumes nothing.
use Rattle.std.specs.Prelude.{ℕ, ◌+◌, Bool, true, false, not, ◌&&◌, ◌||◌, List, [], ◌∷◌, ◌++◌, length, is_some, Some, None, Option, ◌==◌, nat_le, nat_lt}
use Rattle.refusals.specs.Questions.{Question, asks}
use Rattle.refusals.specs.declared.Refusal.TheVariants.{NoAddedWords, TagLength, OwnAddress, KeyLength, MessageLength, Room, NoSlot, SlotEmpty, NoLane, LaneBusy, NotBegun, TagSize, NumbersSpent, Address, OldNumber, OrderInHand, NotInHand}
use Rattle.mac.specs.Face.{Face, within}
use Rattle.frame.specs.Layout.{header_of}
use Rattle.frame.specs.Reading.{body_questions, questions}
use Rattle.node.specs.declared.desk.Fields.{Fields}

-- is the address the node's own, or everybody's?
abbrev pub addressed : ℕ → ℕ → Bool
addressed own to = to == own || to == 65535

-- is this the order in hand, in all its fields?
abbrev pub same_order : Fields → Fields → Bool
same_order a b =
    (a.slot == b.slot) && (a.number == b.number && (a.kind == b.kind && (a.level == b.level && (a.place == b.place && a.size == b.size))))

abbrev pub is_order : Fields → Option Fields → Bool
is_order o None = false
is_order o (Some h) = same_order h o

-- would a run of so many bytes, and more, be within the longest message?
abbrev pub joins : ℕ → ℕ → Option ℕ → Bool
joins most more None = true
joins most more (Some n) = nat_le (n + more) most

-- is there such a slot, and a key in it?
abbrev pub slot_q : ℕ → Bool → List Question
slot_q slot keyed = asks (nat_lt slot 8) NoSlot ∷ asks keyed SlotEmpty ∷ []

module _ (f : Face) where
  -- of a hash with so many added words, a tag of t bytes and the node's own address
  abbrev pub making_q : ℕ → ℕ → ℕ → List Question
  making_q added t address = asks (not (f.needs && added == 0)) NoAddedWords ∷ asks (within f.row.tag t) TagLength ∷ asks (nat_le address 65534) OwnAddress ∷ []

  abbrev pub install_q : ℕ → ℕ → List Question
  install_q slot size = asks (nat_lt slot 8) NoSlot ∷ asks (within f.row.key size) KeyLength ∷ []

  -- a piece of so many bytes for a lane whose run has `fed`
  abbrev pub feed_q : ℕ → ℕ → Option ℕ → List Question
  feed_q lane size fed = asks (nat_lt lane 4) NoLane ∷ asks (is_some fed) NotBegun ∷ asks (joins f.row.message size fed) MessageLength ∷ []

  -- a command for a slot that last sealed `last`: a kind and a body, into a place with room
  abbrev pub command_q : ℕ → List ℕ → ℕ → ℕ → ℕ → List Question
  command_q kind body last t room =
      body_questions kind body ++
      (asks (nat_le (8 + length body) f.row.message) MessageLength ∷ asks (nat_lt last 4294967295) NumbersSpent ∷ asks (nat_le (8 + length body + t) room) Room ∷ [])

  -- the same for a slot that holds `key`
  abbrev pub seal_q : ℕ → Option (List ℕ) → ℕ → List ℕ → ℕ → ℕ → ℕ → List Question
  seal_q slot key kind body last t room = slot_q slot (is_some key) ++ command_q kind body last t room

  -- a frame, before its tag is looked at: with the order in hand, the key that its slot holds and the last number taken there
  abbrev pub frame_q : Option Fields → List ℕ → ℕ → ℕ → Option (List ℕ) → ℕ → List Question
  frame_q hand frame t own key last =
      (asks (not (is_some hand)) OrderInHand ∷ []) ++
      (questions frame t ++
      (asks (is_some key) SlotEmpty ∷ asks (addressed own (header_of frame).address) Address ∷
      asks (nat_le (8 + (header_of frame).size) f.row.message) MessageLength ∷ asks (nat_lt last (header_of frame).number) OldNumber ∷ []))

abbrev pub end_q : Option Fields → Fields → List Question
end_q hand o = asks (is_order o hand) NotInHand ∷ []

-- a slot that holds `key`
abbrev pub clear_q : ℕ → Option (List ℕ) → List Question
clear_q slot key = slot_q slot (is_some key)

abbrev pub open_q : ℕ → ℕ → Option (List ℕ) → Option ℕ → List Question
open_q lane slot key fed = asks (nat_lt lane 4) NoLane ∷ (slot_q slot (is_some key) ++ (asks (not (is_some fed)) LaneBusy ∷ []))

abbrev pub drop_q : ℕ → Option ℕ → List Question
drop_q lane fed = asks (nat_lt lane 4) NoLane ∷ asks (is_some fed) NotBegun ∷ []

abbrev pub finish_q : ℕ → Option ℕ → ℕ → ℕ → List Question
finish_q lane fed t room = asks (nat_lt lane 4) NoLane ∷ asks (is_some fed) NotBegun ∷ asks (nat_le t room) Room ∷ []

abbrev pub judge_q : ℕ → Option ℕ → ℕ → ℕ → List Question
judge_q lane fed t size = asks (nat_lt lane 4) NoLane ∷ asks (is_some fed) NotBegun ∷ asks (size == t) TagSize ∷ []
