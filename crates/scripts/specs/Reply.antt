-- What is replied to each line of a script. Assumes nothing.
use Rattle.std.specs.Prelude.{ℕ, ◌+◌, cond, List, [], ◌∷◌, ◌++◌, take, Some, None, Ok, Err, codes, decimal, Option, slice_index, slice_index_or}
use Rattle.refusals.specs.Numbers.{number}
use Rattle.refusals.specs.declared.Refusal.{Refusal}
use Rattle.node.specs.declared.replay.Outcome.TheVariants.{Done, Tag, Verdict, Frame, Given}
use Rattle.node.specs.declared.replay.Report.{Report}
use Rattle.node.specs.Replies.{Answer}
use Rattle.history.specs.Law.{report_at}
use Rattle.text.specs.Hex.{hex_of}
use Rattle.scripts.specs.declared.stage.Stage.{Stage}
use Rattle.scripts.specs.declared.stage.Stage.TheVariants.{Waiting, Refusing, Working}
use Rattle.scripts.specs.declared.verb.Verb.{Verb}
use Rattle.scripts.specs.declared.verb.Verb.TheVariants.{Node, Calling, Meter, State}
use Rattle.scripts.specs.Calls.{numbers_of}
use Rattle.scripts.specs.Form.{Said}
use Rattle.scripts.specs.Making.{making}

-- each number after a space
abbrev pub spaced : List ℕ → List ℕ
spaced [] = []
spaced (n ∷ ns) = 32 ∷ (decimal n ++ spaced ns)

abbrev pub refused : Refusal → List ℕ
refused e = codes "no" ++ spaced (number e ∷ [])

-- the answer to a call, where tags have t bytes
abbrev pub answered : ℕ → Answer → List ℕ
answered t (Err e) = refused e
answered t (Ok Done) = codes "ok"
answered t (Ok (Tag place)) = codes "tag " ++ hex_of (take t place)
answered t (Ok (Verdict v)) = cond v (codes "right") (codes "wrong")
answered t (Ok (Frame f)) = codes "frame " ++ hex_of (take f.length f.place)
answered t (Ok (Given o)) = codes "order" ++ spaced (numbers_of o)

abbrev pub metered : Report → List ℕ
metered r = decimal r.reading

-- level, taken, carried and declined
abbrev pub stated : Report → List ℕ
stated r = decimal r.level ++ spaced (r.taken ∷ r.carried ∷ r.declined ∷ [])

abbrev pub made : Option Refusal → List ℕ
made None = codes "ok"
made (Some e) = refused e

-- how a script stands after its node line
abbrev pub begun_by : Option Refusal → ℕ → Stage
begun_by None t = Working t 0
begun_by (Some e) t = Refusing e

-- before the node line
abbrev pub while_waiting : Verb → List ℕ → List ℕ
while_waiting Node ns = made (making ns)
while_waiting (Calling d) ns = codes "?"
while_waiting Meter ns = codes "?"
while_waiting State ns = codes "?"

-- after a refused making
abbrev pub while_refusing : Refusal → Verb → List ℕ
while_refusing e Node = codes "?"
while_refusing e (Calling d) = refused e
while_refusing e Meter = refused e
while_refusing e State = refused e

-- The answers to the calls of a script, and the reports before the first and after each. No default is ever come to: there
-- is an answer for each call.
module _ (answers : List Answer) (reports : List Report) where
  -- there is a node with tags of t bytes, after k calls
  abbrev pub while_working : ℕ → ℕ → Verb → List ℕ
  while_working t k Node = codes "?"
  while_working t k (Calling d) = answered t (slice_index_or answers k (Ok Done))
  while_working t k Meter = metered (report_at reports k)
  while_working t k State = stated (report_at reports k)

  abbrev pub while_at : Stage → Said → List ℕ
  while_at Waiting s = while_waiting s.verb s.numbers
  while_at (Refusing e) s = while_refusing e s.verb
  while_at (Working t k) s = while_working t k s.verb

  -- a line of another form is replied to by `?`
  abbrev pub replied : Stage → Option Said → List ℕ
  replied stage None = codes "?"
  replied stage (Some s) = while_at stage s

-- how the script stands after a line
abbrev pub on_from_waiting : Verb → List ℕ → Stage
on_from_waiting Node ns = begun_by (making ns) (slice_index ns 2)
on_from_waiting (Calling d) ns = Waiting
on_from_waiting Meter ns = Waiting
on_from_waiting State ns = Waiting

abbrev pub on_from_working : ℕ → ℕ → Verb → Stage
on_from_working t k Node = Working t k
on_from_working t k (Calling d) = Working t (k + 1)
on_from_working t k Meter = Working t k
on_from_working t k State = Working t k

abbrev pub on_from : Stage → Said → Stage
on_from Waiting s = on_from_waiting s.verb s.numbers
on_from (Refusing e) s = Refusing e
on_from (Working t k) s = on_from_working t k s.verb

abbrev pub onward : Stage → Option Said → Stage
onward stage None = stage
onward stage (Some s) = on_from stage s

-- the replies to all the lines, each with its newline
abbrev pub transcript : List Answer → List Report → Stage → List (Option Said) → List ℕ
transcript answers reports stage [] = []
transcript answers reports stage (line ∷ lines) = replied answers reports stage line ++ (10 ∷ transcript answers reports (onward stage line) lines)

-- how many calls came before
abbrev pub calls_before : Stage → ℕ
calls_before Waiting = 0
calls_before (Refusing e) = 0
calls_before (Working t k) = k
