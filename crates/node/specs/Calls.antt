-- What each call answers and makes of what the node stands for. Assumes nothing.
use Rattle.std.specs.Prelude.{ℕ, ◌+◌, ◌-◌, Bool, true, false, cond, List, [], ◌++◌, length, drop, replicate, Some, None, Ok, Err, Option, Result, ◌==◌, slice_index, slice_set}
use Rattle.std.specs.Option.{unwrap_or}
use Rattle.std.specs.Str.{bytes_eq}
use Rattle.refusals.specs.Questions.{first_refusal}
use Rattle.refusals.specs.declared.Refusal.{Refusal}
use Rattle.mac.specs.Face.{Face}
use Rattle.refusals.specs.declared.Refusal.TheVariants.{WrongTag}
use Rattle.frame.specs.Layout.{header_of, bytes_of_header, body_of, signed_part, tag_in}
use Rattle.frame.specs.Sealing.{header_for}
use Rattle.node.specs.declared.desk.Desk.{Desk}
use Rattle.node.specs.declared.desk.Fields.{Fields}
use Rattle.node.specs.Model.{Model, Opened, After, accepted, unless, key_at, run_at, fed_of, with_slot, with_lane, with_desk}
use Rattle.node.specs.Asking.{making_q, install_q, clear_q, open_q, feed_q, drop_q, finish_q, judge_q, seal_q, frame_q, end_q}

abbrev pub desk_new : Desk
desk_new = record { level = 100; taken = 0; carried = 0; declined = 0; took = replicate 8 0; sealed = replicate 8 0; hand = None }

-- a new node, over a hash with so many added words
abbrev pub new : Face → ℕ → ℕ → ℕ → Model
new f added t address = record { slots = replicate 8 None; lanes = replicate 4 None; desk = desk_new; t = t; address = address; refusal = first_refusal (making_q f added t address) }

-- where the making was refused, so is every call
abbrev pub guarded : {X : Type 0} → Model → After X → After X
guarded m x = unless m.refusal m x

-- the key and the bytes of a run
abbrev pub key_of : Option Opened → List ℕ
key_of None = []
key_of (Some o) = o.key

abbrev pub bytes_of : Option Opened → List ℕ
bytes_of None = []
bytes_of (Some o) = o.bytes

-- a run with a piece more
abbrev pub joined : Option Opened → List ℕ → Opened
joined o piece = record { key = key_of o; bytes = bytes_of o ++ piece }

module _ (f : Face) (m : Model) where
  unfoldable pub install : ℕ → List ℕ → After Unit
  install slot key = unless (first_refusal (install_q f slot (length key))) m (accepted tt (with_slot m slot (Some key)) f.setup)

  unfoldable pub clear : ℕ → After Unit
  clear slot = unless (first_refusal (clear_q slot (key_at m slot))) m (accepted tt (with_slot m slot None) 0)

  unfoldable pub open_lane : ℕ → ℕ → After Unit
  open_lane lane slot =
      unless (first_refusal (open_q lane slot (key_at m slot) (fed_of (run_at m lane)))) m
      (accepted tt (with_lane m lane (Some (record { key = unwrap_or (key_at m slot) []; bytes = [] }))) 0)

  unfoldable pub feed : ℕ → List ℕ → After Unit
  feed lane piece =
      let n = length (bytes_of (run_at m lane)) in
      unless (first_refusal (feed_q f lane (length piece) (fed_of (run_at m lane)))) m
      (accepted tt (with_lane m lane (Some (joined (run_at m lane) piece))) (f.held (n + length piece) - f.held n))

  unfoldable pub drop_lane : ℕ → After Unit
  drop_lane lane = unless (first_refusal (drop_q lane (fed_of (run_at m lane)))) m (accepted tt (with_lane m lane None) 0)

  -- the tag of a run, and the rounds that its end makes
  abbrev pub tag_at : ℕ → List ℕ
  tag_at lane = f.tag (key_of (run_at m lane)) (bytes_of (run_at m lane)) m.t

  abbrev pub end_rounds : ℕ → ℕ
  end_rounds lane = let n = length (bytes_of (run_at m lane)) in f.whole n - f.held n

  unfoldable pub finish : ℕ → ℕ → After Unit
  finish lane room = unless (first_refusal (finish_q lane (fed_of (run_at m lane)) m.t room)) m (accepted tt (with_lane m lane None) (end_rounds lane))

  unfoldable pub judge : ℕ → List ℕ → After Bool
  judge lane given =
      unless (first_refusal (judge_q lane (fed_of (run_at m lane)) m.t (length given))) m
      (accepted (bytes_eq given (tag_at lane)) (with_lane m lane None) (end_rounds lane))

  -- the place to write after finish: the tag over what was there, where nothing was refused
  abbrev pub written : {X : Type 0} → Result X Refusal → List ℕ → List ℕ → List ℕ
  written (Ok x) tag out = tag ++ drop (length tag) out
  written (Err e) tag out = out

-- the books after a frame was sealed in a slot: the number after the last
abbrev pub next_number : Desk → ℕ → ℕ
next_number d slot = slice_index d.sealed slot + 1

abbrev pub desk_sealed : Desk → ℕ → Desk
desk_sealed d slot = record { level = d.level; taken = d.taken; carried = d.carried; declined = d.declined; took = d.took; sealed = slice_set d.sealed slot (next_number d slot); hand = d.hand }

-- after an order was taken, carried, declined
abbrev pub desk_taken : Desk → Fields → Desk
desk_taken d o = record { level = d.level; taken = d.taken + 1; carried = d.carried; declined = d.declined; took = slice_set d.took o.slot o.number; sealed = d.sealed; hand = Some o }

abbrev pub desk_carried : Desk → Fields → Desk
desk_carried d o = record { level = cond (o.kind == 0) o.level d.level; taken = d.taken; carried = d.carried + 1; declined = d.declined; took = d.took; sealed = d.sealed; hand = None }

abbrev pub desk_declined : Desk → Desk
desk_declined d = record { level = d.level; taken = d.taken; carried = d.carried; declined = d.declined + 1; took = d.took; sealed = d.sealed; hand = None }

-- the order of a frame: the level of a level, 0 of a sheet, and the body's place and length
abbrev pub order_of : List ℕ → Fields
order_of frame = record {
  slot = (header_of frame).slot;
  number = (header_of frame).number;
  kind = (header_of frame).kind;
  level = cond ((header_of frame).kind == 0) (slice_index (body_of frame) 0) 0;
  place = 8;
  size = (header_of frame).size;
}

module _ (f : Face) (m : Model) where
  -- header and body of the frame that is sealed, and the frame
  abbrev pub sealed_front : ℕ → ℕ → List ℕ → ℕ → List ℕ
  sealed_front slot kind body address = bytes_of_header (header_for slot kind address (next_number m.desk slot) body) ++ body

  abbrev pub sealed_frame : ℕ → ℕ → List ℕ → ℕ → List ℕ
  sealed_frame slot kind body address =
      let front = sealed_front slot kind body address in
      front ++ f.tag (unwrap_or (key_at m slot) []) front m.t

  -- answers the frame's length
  unfoldable pub seal : ℕ → ℕ → List ℕ → ℕ → After ℕ
  seal slot kind body room =
      unless (first_refusal (seal_q f slot (key_at m slot) kind body (slice_index m.desk.sealed slot) m.t room)) m
      (accepted (8 + length body + m.t) (with_desk m (desk_sealed m.desk slot)) (f.whole (8 + length body)))

  -- is the frame's tag that of its header and body, under the key of its slot?
  abbrev pub right_tag : List ℕ → Bool
  right_tag frame = bytes_eq (tag_in frame) (f.tag (unwrap_or (key_at m (header_of frame).slot) []) (signed_part frame) m.t)

  -- a wrong tag is found out by the rounds of the whole
  abbrev pub tried : List ℕ → Bool → After Fields
  tried frame true = accepted (order_of frame) (with_desk m (desk_taken m.desk (order_of frame))) (f.whole (8 + (header_of frame).size))
  tried frame false = record { answer = Err WrongTag; model = m; rounds = f.whole (8 + (header_of frame).size) }

  unfoldable pub take_frame : List ℕ → After Fields
  take_frame frame =
      let slot = (header_of frame).slot in
      unless (first_refusal (frame_q f m.desk.hand frame m.t m.address (key_at m slot) (slice_index m.desk.took slot))) m (tried frame (right_tag frame))

  unfoldable pub carry : Fields → After Unit
  carry o = unless (first_refusal (end_q m.desk.hand o)) m (accepted tt (with_desk m (desk_carried m.desk o)) 0)

  unfoldable pub decline : Fields → After Unit
  decline o = unless (first_refusal (end_q m.desk.hand o)) m (accepted tt (with_desk m (desk_declined m.desk)) 0)
