-- What any list of calls on a new node owes, by its history alone. Assumes nothing.
use Rattle.std.specs.Prelude.{◌≡◌, ℕ, ◌+◌, ◌<◌, ◌≤◌, min, Bool, true, cond, List, [], ◌∷◌, ◌++◌, length, take, Some, None, Ok, Decides, Option, slice_index_or}
use Rattle.std.specs.Option.{unwrap_or}
use Rattle.std.specs.List.{AllByRecursion}
use Rattle.std.specs.Str.{bytes_eq}
use Rattle.hash.specs.Meter.{moved}
use Rattle.refusals.specs.Questions.{Question, asks, first_refusal}
use Rattle.refusals.specs.declared.Refusal.TheVariants.{WrongTag}
use Rattle.mac.specs.Face.{Face}
use Rattle.frame.specs.Layout.{header_of, bytes_of_header, signed_part, tag_in}
use Rattle.frame.specs.Sealing.{header_for}
use Rattle.node.specs.declared.replay.Call.{Call}
use Rattle.node.specs.declared.replay.Call.TheVariants.{Install, Clear, Open, Feed, Finish, Judge, Drop, Seal, Take, Carry, Decline}
use Rattle.node.specs.declared.replay.Outcome.TheVariants.{Done, Tag, Verdict, Given}
use Rattle.node.specs.declared.replay.Report.{Report}
use Rattle.node.specs.Asking.{making_q, install_q, clear_q, open_q, feed_q, drop_q, finish_q, judge_q, seal_q, frame_q, end_q}
use Rattle.node.specs.Calls.{order_of}
use Rattle.node.specs.Stands.{in_hand}
use Rattle.node.specs.Replies.{Answer, framed}
use Rattle.history.specs.History.{Event, history, refusal_in, accepted, compared, key_in, Runs, fed_bytes, order_held, numbers_taken, numbers_sealed, newest, count, is_take, is_carry, is_decline, level_in}

-- P of each event and what came before it
abbrev pub Always : (List Event → Event → Type 0) → List Event → Type 0
Always P [] = Unit {0}
Always P (e ∷ past) = P past e × Always P past

-- the report after k calls
abbrev pub report_at : List Report → ℕ → Report
report_at reports k = slice_index_or reports k (record { reading = 0; level = 0; taken = 0; carried = 0; declined = 0 })

-- each number is above all before it
abbrev pub Rising : List ℕ → Type 0
Rising [] = Unit {0}
Rising (n ∷ earlier) = AllByRecursion (λ k. k < n) earlier × Rising earlier

-- a node of an algorithm, over a hash with so many added words, with tags of t bytes and an address of its own
module _ (f : Face) (added t own : ℕ) where
  -- the questions of a call, each answered by what it is handed and what came before
  abbrev pub right_tag : List Event → List ℕ → Bool
  right_tag past frame = bytes_eq (tag_in frame) (f.tag (unwrap_or (key_in past (header_of frame).slot) []) (signed_part frame) t)

  abbrev pub questions : List Event → Call → List Question
  questions past (Install s key) = install_q f s (length key.now)
  questions past (Clear s) = clear_q s (key_in past s)
  questions past (Open l s) = open_q l s (key_in past s) (fed_bytes past l)
  questions past (Feed l piece) = feed_q f l (length piece.now) (fed_bytes past l)
  questions past (Finish l room) = finish_q l (fed_bytes past l) t (min room 32)
  questions past (Judge l given) = judge_q l (fed_bytes past l) t (length given.now)
  questions past (Drop l) = drop_q l (fed_bytes past l)
  questions past (Seal s kind body address room) = seal_q f s (key_in past s) kind body.now (newest (numbers_sealed past s)) t (min room 295)
  questions past (Take frame) =
      let s = (header_of frame.now).slot in
      frame_q f (order_held past) frame.now t own (key_in past s) (newest (numbers_taken past s)) ++ (asks (right_tag past frame.now) WrongTag ∷ [])
  questions past (Carry o) = end_q (order_held past) o
  questions past (Decline o) = end_q (order_held past) o

  -- each call asks first what its making asked
  abbrev pub asked : List Event → Call → List Question
  asked past c = making_q f added t own ++ questions past c

  -- the tag of the run in a lane stands first in the place
  pub record Written (past : List Event) (l : ℕ) (a : Answer) : Type 0 where
    pub key : List ℕ
    pub bytes : List ℕ
    pub place : List ℕ
    pub run : Runs past l key bytes
    pub answer : a ≡ Ok (Tag place)
    pub tag : take t place ≡ f.tag key bytes t

  -- a yes exactly where the bytes given are the tag of the run
  pub record Judged (past : List Event) (l : ℕ) (given : List ℕ) (a : Answer) : Type 0 where
    pub key : List ℕ
    pub bytes : List ℕ
    pub verdict : Bool
    pub run : Runs past l key bytes
    pub answer : a ≡ Ok (Verdict verdict)
    pub decides : Decides verdict (given ≡ f.tag key bytes t)

  -- a header with the number after the last that was sealed in the slot, the body, and the tag of both under the slot's key
  abbrev pub front : List Event → ℕ → ℕ → List ℕ → ℕ → List ℕ
  front past s kind body address = bytes_of_header (header_for s kind address (newest (numbers_sealed past s) + 1) body) ++ body

  pub record Framed (past : List Event) (s kind : ℕ) (body : List ℕ) (address : ℕ) (a : Answer) : Type 0 where
    pub key : List ℕ
    pub place : List ℕ
    pub held : key_in past s ≡ Some key
    pub answer : a ≡ Ok (framed place (8 + length body + t))
    pub frame : take (8 + length body + t) place ≡ front past s kind body address ++ f.tag key (front past s kind body address) t

  -- an order, of the numbers in the frame, exactly where the frame's tag is that of its header and body under the slot's key
  pub record Taken (past : List Event) (frame : List ℕ) (a : Answer) : Type 0 where
    pub key : List ℕ
    pub held : key_in past (header_of frame).slot ≡ Some key
    pub long : length frame ≡ 8 + (header_of frame).size + t
    pub decides : Decides (accepted a) (tag_in frame ≡ f.tag key (signed_part frame) t)
    pub answer : accepted a ≡ true → a ≡ Ok (Given (order_of frame))

  -- what an accepted call answers, and a take that comes to compare its tag
  abbrev pub Right : List Event → Call → Answer → Type 0
  Right past (Install s key) a = accepted a ≡ true → a ≡ Ok Done
  Right past (Clear s) a = accepted a ≡ true → a ≡ Ok Done
  Right past (Open l s) a = accepted a ≡ true → a ≡ Ok Done
  Right past (Feed l piece) a = accepted a ≡ true → a ≡ Ok Done
  Right past (Finish l room) a = accepted a ≡ true → Written past l a
  Right past (Judge l given) a = accepted a ≡ true → Judged past l given.now a
  Right past (Drop l) a = accepted a ≡ true → a ≡ Ok Done
  Right past (Seal s kind body address room) a = accepted a ≡ true → Framed past s kind body.now address a
  Right past (Take frame) a = compared a ≡ true → Taken past frame.now a
  Right past (Carry o) a = accepted a ≡ true → a ≡ Ok Done
  Right past (Decline o) a = accepted a ≡ true → a ≡ Ok Done

  -- the first no is the refusal, and where there is none the call is accepted
  pub record Answered (past : List Event) (e : Event) : Type 0 where
    pub refusal : refusal_in e.answer ≡ first_refusal (asked past e.call)
    pub right : Right past e.call e.answer

module _ (f : Face) where
  -- the rounds of a run that is open, or that has ended
  abbrev pub held_rounds : Option ℕ → ℕ
  held_rounds None = 0
  held_rounds (Some n) = f.held n

  abbrev pub whole_rounds : Option ℕ → ℕ
  whole_rounds None = 0
  whole_rounds (Some n) = f.whole n

  -- what an event closes the account of: a run that is dropped stays at what it had
  abbrev pub settled : List Event → Call → Answer → ℕ
  settled past (Install s key) a = cond (accepted a) f.setup 0
  settled past (Clear s) a = 0
  settled past (Open l s) a = 0
  settled past (Feed l piece) a = 0
  settled past (Finish l room) a = cond (accepted a) (whole_rounds (fed_bytes past l)) 0
  settled past (Judge l given) a = cond (accepted a) (whole_rounds (fed_bytes past l)) 0
  settled past (Drop l) a = cond (accepted a) (held_rounds (fed_bytes past l)) 0
  settled past (Seal s kind body address room) a = cond (accepted a) (f.whole (8 + length body.now)) 0
  settled past (Take frame) a = cond (compared a) (f.whole (8 + (header_of frame.now).size)) 0
  settled past (Carry o) a = 0
  settled past (Decline o) a = 0

  abbrev pub all_settled : List Event → ℕ
  all_settled [] = 0
  all_settled (e ∷ past) = settled past e.call e.answer + all_settled past

  abbrev pub open_rounds : List Event → ℕ → ℕ
  open_rounds h l = held_rounds (fed_bytes h l)

  abbrev pub four : (ℕ → ℕ) → ℕ
  four g = g 0 + (g 1 + (g 2 + g 3))

  -- the sum of the round counts: of what is closed, and of the runs in the lanes
  abbrev pub cost : List Event → ℕ
  cost h = all_settled h + four (open_rounds h)

  -- The law, of the history so far and the report on the node. The meter read `start` before.
  pub record Law (added t own start : ℕ) (h : List Event) (r : Report) : Type 0 where
    pub answered : Always (Answered f added t own) h
    pub taken_rise : (s : ℕ) → Rising (numbers_taken h s)
    pub sealed_rise : (s : ℕ) → Rising (numbers_sealed h s)
    pub taken : r.taken ≡ count is_take h
    pub carried : r.carried ≡ count is_carry h
    pub declined : r.declined ≡ count is_decline h
    pub orders : r.taken ≡ r.carried + r.declined + in_hand (order_held h)
    pub level : r.level ≡ level_in h
    pub reading : r.reading ≡ moved start (cost h)

-- every call has its answer, and the law holds of them
pub record Ran (f : Face) (added t own start : ℕ) (calls : List Call) (answers : List Answer) (r : Report) : Type 0 where
  pub answered : length answers ≡ length calls
  pub law : Law f added t own start (history calls answers) r

-- The same, and a report stands before the first call and after each one; the law holds at each of these points, of the calls
-- and answers so far.
pub record Logged (f : Face) (added t own start : ℕ) (calls : List Call) (answers : List Answer) (reports : List Report) : Type 0 where
  pub ran : Ran f added t own start calls answers (report_at reports (length answers))
  pub reported : length reports ≡ length calls + 1
  pub law : (k : ℕ) → k ≤ length calls → Law f added t own start (history (take k calls) (take k answers)) (report_at reports k)
