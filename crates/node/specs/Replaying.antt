-- What a call given as a value answers and makes of what the node stands for. Assumes nothing.
use Rattle.std.specs.Prelude.{◌≡◌, ℕ, ◌<◌, min, List, ◌++◌, length, drop, replicate, Result}
use Rattle.hash.specs.Meter.{after}
use Rattle.refusals.specs.declared.Refusal.{Refusal}
use Rattle.mac.specs.Face.{Face}
use Rattle.node.specs.declared.Node.{Node}
use Rattle.node.specs.declared.desk.Desk.{Desk}
use Rattle.node.specs.declared.replay.Call.{Call}
use Rattle.node.specs.declared.replay.Call.TheVariants.{Install, Clear, Open, Feed, Finish, Judge, Drop, Seal, Take, Carry, Decline}
use Rattle.node.specs.declared.replay.Report.{Report}
use Rattle.node.specs.Model.{Model, After}
use Rattle.node.specs.Calls.{guarded, install, clear, open_lane, feed, finish, tag_at, judge, drop_lane, seal, sealed_frame, take_frame, carry, decline}
use Rattle.node.specs.Stands.{Stands}
use Rattle.node.specs.Replies.{Answer, done_of, tag_of, verdict_of, frame_of, fields_of}

-- an answer, what the node then stands for, and the rounds that the call made
pub record Act : Type 0 where
  pub answer : Answer
  pub model : Model
  pub rounds : ℕ

abbrev pub act : {X : Type 0} → (Result X Refusal → Answer) → After X → Act
act of x = record { answer = of x.answer; model = x.model; rounds = x.rounds }

-- bytes that stand first in a place of n zeros
abbrev pub placed : ℕ → List ℕ → List ℕ
placed n bytes = bytes ++ drop (length bytes) (replicate n 0)

abbrev pub performed : Face → Model → Call → Act
performed f m (Install slot key) = act done_of (guarded m (install f m slot key.now))
performed f m (Clear slot) = act done_of (guarded m (clear f m slot))
performed f m (Open lane slot) = act done_of (guarded m (open_lane f m lane slot))
performed f m (Feed lane piece) = act done_of (guarded m (feed f m lane piece.now))
performed f m (Finish lane room) = act (tag_of (placed 32 (tag_at f m lane))) (guarded m (finish f m lane (min room 32)))
performed f m (Judge lane tag) = act verdict_of (guarded m (judge f m lane tag.now))
performed f m (Drop lane) = act done_of (guarded m (drop_lane f m lane))
performed f m (Seal slot kind body address room) =
    act (frame_of (placed 295 (sealed_frame f m slot kind body.now address))) (guarded m (seal f m slot kind body.now (min room 295)))
performed f m (Take frame) = act fields_of (guarded m (take_frame f m frame.now))
performed f m (Carry order) = act done_of (guarded m (carry f m order))
performed f m (Decline order) = act done_of (guarded m (decline f m order))

-- an address has 16 bits
abbrev pub Narrow : Call → Type 0
Narrow (Install slot key) = Unit {0}
Narrow (Clear slot) = Unit {0}
Narrow (Open lane slot) = Unit {0}
Narrow (Feed lane piece) = Unit {0}
Narrow (Finish lane room) = Unit {0}
Narrow (Judge lane tag) = Unit {0}
Narrow (Drop lane) = Unit {0}
Narrow (Seal slot kind body address room) = address < 65536
Narrow (Take frame) = Unit {0}
Narrow (Carry order) = Unit {0}
Narrow (Decline order) = Unit {0}

abbrev pub report_of : Desk → ℕ → Report
report_of d reading = record { reading = reading; level = d.level; taken = d.taken; carried = d.carried; declined = d.declined }

module _ {H A : Type 0} (next : H → H) (f : Face) where
  pub record Acted (n0 n1 : Node H A) (a : Answer) (x : Act) : Type 0 where
    pub answer : a ≡ x.answer
    pub model : Stands next f n1 x.model
    pub meter : n1.hash ≡ after next n0.hash x.rounds

  -- so it is whatever the node stood for
  abbrev pub Performs : Node H A → Node H A → Call → Answer → Type 0
  Performs n0 n1 c a = (m : Model) → Stands next f n0 m → Acted n0 n1 a (performed f m c)
