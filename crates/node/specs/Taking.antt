-- The questions on a command and on a frame as the node asks them, part by part, and the tags of whole messages. Assumes nothing.
use Rattle.std.specs.Prelude.{◌≡◌, ℕ, ◌+◌, ◌<◌, ◌≤◌, Bool, true, List, [], ◌∷◌, ◌++◌, length, take, drop, is_some, Some, None, Ok, Err, Option, Result, nat_le, nat_lt, slice_index, slice_index_or}
use Rattle.std.specs.Str.{bytes_eq}
use Rattle.hash.specs.Meter.{after}
use Rattle.refusals.specs.declared.Refusal.{Refusal}
use Rattle.refusals.specs.Questions.{Question, asks, first_refusal}
use Rattle.refusals.specs.declared.Refusal.TheVariants.{SlotEmpty, Address, MessageLength, OldNumber}
use Rattle.mac.specs.Face.{Face, within}
use Rattle.mac.specs.declared.KeyRecord.{KeyRecord}
use Rattle.frame.specs.Layout.{signed_part, tag_in, header_of}
use Rattle.frame.specs.Reading.{header_in, level_in}
use Rattle.frame.specs.declared.Record.{Record}
use Rattle.node.specs.declared.desk.Fields.{Fields}
use Rattle.node.specs.Asking.{addressed, slot_q, command_q, frame_q}
use Rattle.node.specs.Calls.{order_of}

-- the order of a frame that was read
abbrev pub fields_in : Record → Fields
fields_in r = record { slot = (header_in r).slot; number = (header_in r).number; kind = (header_in r).kind; level = level_in r; place = 8; size = (header_in r).size }

-- the questions that follow the reader's: is there a key, is the frame for this node, is it short enough, is its number new?
abbrev pub further : Face → Bool → ℕ → ℕ → ℕ → ℕ → ℕ → List Question
further f keyed own address size last number =
    asks keyed SlotEmpty ∷ asks (addressed own address) Address ∷ asks (nat_le (8 + size) f.row.message) MessageLength ∷ asks (nat_lt last number) OldNumber ∷ []

-- an answer by the first no: where there is none, the key of the slot
abbrev pub Answered : Option Refusal → Option KeyRecord → Result KeyRecord Refusal → Type 0
Answered first held (Ok k) = (first ≡ None) × (held ≡ Some k)
Answered first held (Err e) = first ≡ Some e

-- the same of a frame, with its order, whose number and slot fit
abbrev pub AskedFrame : Face → Option Fields → List ℕ → ℕ → ℕ → List (Option KeyRecord) → List ℕ → Result (Fields × KeyRecord) Refusal → Type 0
AskedFrame f hand frame t own slots took (Ok x) =
    ((key : Option (List ℕ)) → is_some key ≡ is_some (slice_index_or slots (header_of frame).slot None) → first_refusal (frame_q f hand frame t own key (slice_index took (header_of frame).slot)) ≡ None)
    × (x.0 ≡ order_of frame) × (slice_index_or slots (header_of frame).slot None ≡ Some x.1) × ((header_of frame).number < 4294967296)
AskedFrame f hand frame t own slots took (Err e) =
    (key : Option (List ℕ)) → is_some key ≡ is_some (slice_index_or slots (header_of frame).slot None) → first_refusal (frame_q f hand frame t own key (slice_index took (header_of frame).slot)) ≡ Some e

-- a whole frame's tag, compared
abbrev pub Signed : {H : Type 0} → (H → H) → Face → H → H → KeyRecord → List ℕ → Bool → Type 0
Signed next f h0 h1 r frame same =
    (k : List ℕ) → f.RecordStands r k → within f.row.tag (length (tag_in frame)) ≡ true → length (signed_part frame) ≤ f.row.message →
    (same ≡ bytes_eq (tag_in frame) (f.tag k (signed_part frame) (length (tag_in frame)))) × (h1 ≡ after next h0 (f.whole (length (signed_part frame))))

-- the questions on a command: is there such a slot, and a key in it; the body's; is it short enough, is a number left, is there room?
abbrev pub sealing : Face → ℕ → Bool → ℕ → List ℕ → ℕ → ℕ → ℕ → List Question
sealing f slot keyed kind body last t room = slot_q slot keyed ++ command_q f kind body last t room

-- an answer by the first no: where there is none, the key of the slot, and what it takes to write the frame
abbrev pub AskedSeal : Face → ℕ → ℕ → List ℕ → ℕ → ℕ → List (Option KeyRecord) → List ℕ → Result KeyRecord Refusal → Type 0
AskedSeal f slot kind body t room slots sealed (Ok k) =
    (first_refusal (sealing f slot (is_some (slice_index_or slots slot None)) kind body (slice_index sealed slot) t room) ≡ None)
    × (slice_index_or slots slot None ≡ Some k) × (slot < 8) × (length body ≤ 255) × (8 + length body + t ≤ room) × (slice_index sealed slot < 4294967295) × (8 + length body ≤ f.row.message)
AskedSeal f slot kind body t room slots sealed (Err e) =
    first_refusal (sealing f slot (is_some (slice_index_or slots slot None)) kind body (slice_index sealed slot) t room) ≡ Some e

-- a tag of t bytes written behind the message that stands in the first n
abbrev pub Behind : {H : Type 0} → (H → H) → Face → H → H → KeyRecord → ℕ → ℕ → List ℕ → List ℕ → Result Unit Refusal → Type 0
Behind next f h0 h1 r t n out0 out1 result =
    (k : List ℕ) → f.RecordStands r k → within f.row.tag t ≡ true → n ≤ f.row.message → n + t ≤ length out0 →
    (result ≡ Ok tt) × (out1 ≡ take n out0 ++ (f.tag k (take n out0) t ++ drop (n + t) out0)) × (h1 ≡ after next h0 (f.whole n))
