-- Two lists that an onlooker who sees calls, lanes, lengths and answer numbers cannot tell apart. Assumes nothing.
use Rattle.std.specs.Prelude.{◌≡◌, ℕ, ◌≤◌, List, length, take}
use Rattle.std.specs.Borrow.{Bor}
use Rattle.std.specs.List.{AllZip}
use Rattle.node.specs.declared.desk.Fields.{Fields}
use Rattle.node.specs.declared.replay.Call.{Call}
use Rattle.node.specs.declared.replay.Call.TheVariants.{Install, Clear, Open, Feed, Finish, Judge, Drop, Seal, Take, Carry, Decline}
use Rattle.node.specs.declared.replay.Report.{Report}
use Rattle.node.specs.Replies.{Answer}
use Rattle.history.specs.History.{Event, history, answer_number}
use Rattle.history.specs.Law.{report_at}

-- the same call on the same lane with bytes of the same length; slots, keys, bytes and all else may differ
pub data AlikeCalls : Call → Call → Type 0 where
  installs : (s s' : ℕ) (key key' : Bor (List ℕ)) → AlikeCalls (Install s key) (Install s' key')
  clears : (s s' : ℕ) → AlikeCalls (Clear s) (Clear s')
  opens : (l s s' : ℕ) → AlikeCalls (Open l s) (Open l s')
  feeds : (l : ℕ) (piece piece' : Bor (List ℕ)) → length piece.now ≡ length piece'.now → AlikeCalls (Feed l piece) (Feed l piece')
  finishes : (l room room' : ℕ) → AlikeCalls (Finish l room) (Finish l room')
  judges : (l : ℕ) (tag tag' : Bor (List ℕ)) → AlikeCalls (Judge l tag) (Judge l tag')
  drops : (l : ℕ) → AlikeCalls (Drop l) (Drop l)
  seals : (s s' kind kind' : ℕ) (body body' : Bor (List ℕ)) (address address' room room' : ℕ) → length body.now ≡ length body'.now → AlikeCalls (Seal s kind body address room) (Seal s' kind' body' address' room')
  takes : (frame frame' : Bor (List ℕ)) → length frame.now ≡ length frame'.now → AlikeCalls (Take frame) (Take frame')
  carries : (o o' : Fields) → AlikeCalls (Carry o) (Carry o')
  declines : (o o' : Fields) → AlikeCalls (Decline o) (Decline o')

pub record AlikeEvents (e e' : Event) : Type 0 where
  pub calls : AlikeCalls e.call e'.call
  pub answers : answer_number e.answer ≡ answer_number e'.answer

abbrev pub Alike : List Event → List Event → Type 0
Alike h h' = AllZip AlikeEvents h h'

-- At every point at which two lists so far are alike, the meters read the same; and where the whole lists are alike, the meters
-- end the same.
pub record Together (calls calls' : List Call) (answers answers' : List Answer) (reports reports' : List Report) : Type 0 where
  pub readings : (k : ℕ) → k ≤ length calls → k ≤ length calls' → Alike (history (take k calls) (take k answers)) (history (take k calls') (take k answers')) →
      (report_at reports k).reading ≡ (report_at reports' k).reading
  pub ends : Alike (history calls answers) (history calls' answers') → (report_at reports (length answers)).reading ≡ (report_at reports' (length answers')).reading
