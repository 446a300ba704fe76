-- What a list of calls and answers says of the slots, the lanes and the orders of a node. A history has the latest event first. Assumes nothing.
use Rattle.std.specs.Prelude.{◌≡◌, ℕ, ◌+◌, Bool, cond, ◌||◌, List, [], ◌∷◌, ◌++◌, reverse, length, Some, None, Option, Ok, Err, ◌==◌}
use Rattle.refusals.specs.Numbers.{number}
use Rattle.refusals.specs.declared.Refusal.{Refusal}
use Rattle.frame.specs.Layout.{header_of}
use Rattle.node.specs.declared.desk.Fields.{Fields}
use Rattle.node.specs.declared.replay.Call.{Call}
use Rattle.node.specs.declared.replay.Call.TheVariants.{Install, Clear, Open, Feed, Finish, Judge, Drop, Seal, Take, Carry, Decline}
use Rattle.node.specs.declared.replay.Outcome.TheVariants.{Done, Tag, Verdict, Frame, Given}
use Rattle.node.specs.Replies.{Answer}

pub record Event : Type 0 where
  pub call : Call
  pub answer : Answer

abbrev pub event : Call → Answer → Event
event c a = record { call = c; answer = a }

-- each call with its answer, in turn
abbrev pub events : List Call → List Answer → List Event
events [] answers = []
events (c ∷ calls) [] = []
events (c ∷ calls) (a ∷ answers) = event c a ∷ events calls answers

abbrev pub history : List Call → List Answer → List Event
history calls answers = reverse (events calls answers)

-- why a call was refused, if it was
abbrev pub refusal_in : Answer → Option Refusal
refusal_in (Ok x) = None
refusal_in (Err e) = Some e

-- an answer's number: 0, or that of the question that refused
abbrev pub number_of : Option Refusal → ℕ
number_of None = 0
number_of (Some e) = number e

abbrev pub answer_number : Answer → ℕ
answer_number a = number_of (refusal_in a)

abbrev pub accepted : Answer → Bool
accepted a = answer_number a == 0

-- did a take come to compare its tag?
abbrev pub compared : Answer → Bool
compared a = accepted a || answer_number a == 20

-- what an accepted call does to a slot
pub data AtSlot : Type 0 where
  puts : List ℕ → AtSlot
  empties : AtSlot
  leaves : AtSlot

abbrev pub at_slot : Call → ℕ → AtSlot
at_slot (Install i key) s = cond (i == s) (puts key.now) leaves
at_slot (Clear i) s = cond (i == s) empties leaves
at_slot (Open l i) s = leaves
at_slot (Feed l piece) s = leaves
at_slot (Finish l room) s = leaves
at_slot (Judge l tag) s = leaves
at_slot (Drop l) s = leaves
at_slot (Seal i kind body address room) s = leaves
at_slot (Take frame) s = leaves
at_slot (Carry o) s = leaves
at_slot (Decline o) s = leaves

-- what an accepted call does to a lane
pub data AtLane : Type 0 where
  opens : ℕ → AtLane
  adds : List ℕ → AtLane
  frees : AtLane
  leaves : AtLane

abbrev pub at_lane : Call → ℕ → AtLane
at_lane (Install i key) l = leaves
at_lane (Clear i) l = leaves
at_lane (Open j i) l = cond (j == l) (opens i) leaves
at_lane (Feed j piece) l = cond (j == l) (adds piece.now) leaves
at_lane (Finish j room) l = cond (j == l) frees leaves
at_lane (Judge j tag) l = cond (j == l) frees leaves
at_lane (Drop j) l = cond (j == l) frees leaves
at_lane (Seal i kind body address room) l = leaves
at_lane (Take frame) l = leaves
at_lane (Carry o) l = leaves
at_lane (Decline o) l = leaves

-- what an accepted call does with orders
pub data AtDesk : Type 0 where
  takes : AtDesk
  carries : Fields → AtDesk
  declines : AtDesk
  leaves : AtDesk

abbrev pub at_desk : Call → AtDesk
at_desk (Install i key) = leaves
at_desk (Clear i) = leaves
at_desk (Open j i) = leaves
at_desk (Feed j piece) = leaves
at_desk (Finish j room) = leaves
at_desk (Judge j tag) = leaves
at_desk (Drop j) = leaves
at_desk (Seal i kind body address room) = leaves
at_desk (Take frame) = takes
at_desk (Carry o) = carries o
at_desk (Decline o) = declines

-- the same of an event: a refused call does nothing
abbrev pub slot_deed : Event → ℕ → AtSlot
slot_deed e s = cond (accepted e.answer) (at_slot e.call s) AtSlot.leaves

abbrev pub lane_deed : Event → ℕ → AtLane
lane_deed e l = cond (accepted e.answer) (at_lane e.call l) AtLane.leaves

abbrev pub desk_deed : Event → AtDesk
desk_deed e = cond (accepted e.answer) (at_desk e.call) AtDesk.leaves

-- the key that slot s holds: that of the last install accepted there, until a clear is accepted there
abbrev pub key_after : AtSlot → Option (List ℕ) → Option (List ℕ)
key_after (puts key) before = Some key
key_after empties before = None
key_after leaves before = before

abbrev pub key_in : List Event → ℕ → Option (List ℕ)
key_in [] s = None
key_in (e ∷ past) s = key_after (slot_deed e s) (key_in past s)

-- lane l runs under this key, which its slot held at the open, over the pieces accepted since, joined
pub data Runs : List Event → ℕ → List ℕ → List ℕ → Type 0 where
  opened : (e : Event) (past : List Event) (l s : ℕ) (key : List ℕ) → lane_deed e l ≡ opens s → key_in past s ≡ Some key → Runs (e ∷ past) l key []
  fed : (e : Event) (past : List Event) (l : ℕ) (key bytes piece : List ℕ) → lane_deed e l ≡ adds piece → Runs past l key bytes → Runs (e ∷ past) l key (bytes ++ piece)
  kept : (e : Event) (past : List Event) (l : ℕ) (key bytes : List ℕ) → lane_deed e l ≡ AtLane.leaves → Runs past l key bytes → Runs (e ∷ past) l key bytes

-- how many bytes the run in lane l has been fed, where there is one
abbrev pub fed_more : AtLane → Option ℕ → Option ℕ
fed_more (opens s) n = Some 0
fed_more (adds piece) None = None
fed_more (adds piece) (Some n) = Some (n + length piece)
fed_more frees n = None
fed_more leaves n = n

abbrev pub fed_bytes : List Event → ℕ → Option ℕ
fed_bytes [] l = None
fed_bytes (e ∷ past) l = fed_more (lane_deed e l) (fed_bytes past l)

-- the order that an answer gives
abbrev pub order_in : Answer → Option Fields
order_in (Err e) = None
order_in (Ok Done) = None
order_in (Ok (Tag place)) = None
order_in (Ok (Verdict v)) = None
order_in (Ok (Frame f)) = None
order_in (Ok (Given o)) = Some o

-- the order in hand: that of the last take accepted, until a carry or a decline is accepted
abbrev pub order_after : AtDesk → Option Fields → Option Fields → Option Fields
order_after takes new before = new
order_after (carries o) new before = None
order_after declines new before = None
order_after leaves new before = before

abbrev pub order_held : List Event → Option Fields
order_held [] = None
order_held (e ∷ past) = order_after (desk_deed e) (order_in e.answer) (order_held past)

-- the numbers of the orders given for slot s, the latest first
abbrev pub number_given : Option Fields → ℕ → List ℕ
number_given None s = []
number_given (Some o) s = cond (o.slot == s) (o.number ∷ []) []

abbrev pub numbers_taken : List Event → ℕ → List ℕ
numbers_taken [] s = []
numbers_taken (e ∷ past) s = number_given (order_in e.answer) s ++ numbers_taken past s

-- the numbers that stand in the frames written for slot s, the latest first
abbrev pub frame_in : Answer → Option (List ℕ)
frame_in (Err e) = None
frame_in (Ok Done) = None
frame_in (Ok (Tag place)) = None
frame_in (Ok (Verdict v)) = None
frame_in (Ok (Frame f)) = Some f.place
frame_in (Ok (Given o)) = None

abbrev pub number_written : Option (List ℕ) → ℕ → List ℕ
number_written None s = []
number_written (Some frame) s = cond ((header_of frame).slot == s) ((header_of frame).number ∷ []) []

abbrev pub numbers_sealed : List Event → ℕ → List ℕ
numbers_sealed [] s = []
numbers_sealed (e ∷ past) s = number_written (frame_in e.answer) s ++ numbers_sealed past s

-- the last of the numbers, 0 where there is none
abbrev pub newest : List ℕ → ℕ
newest [] = 0
newest (n ∷ earlier) = n

-- counts of accepted calls
abbrev pub is_take : AtDesk → ℕ
is_take takes = 1
is_take (carries o) = 0
is_take declines = 0
is_take leaves = 0

abbrev pub is_carry : AtDesk → ℕ
is_carry takes = 0
is_carry (carries o) = 1
is_carry declines = 0
is_carry leaves = 0

abbrev pub is_decline : AtDesk → ℕ
is_decline takes = 0
is_decline (carries o) = 0
is_decline declines = 1
is_decline leaves = 0

abbrev pub count : (AtDesk → ℕ) → List Event → ℕ
count is [] = 0
count is (e ∷ past) = is (desk_deed e) + count is past

-- the lamp's level: that of the last order carried that sets one, 100 before
abbrev pub level_after : AtDesk → ℕ → ℕ
level_after takes before = before
level_after (carries o) before = cond (o.kind == 0) o.level before
level_after declines before = before
level_after leaves before = before

abbrev pub level_in : List Event → ℕ
level_in [] = 100
level_in (e ∷ past) = level_after (desk_deed e) (level_in past)
