-- What a script comes to: the run of its calls on the node that it makes, and the replies. Assumes nothing.
use Rattle.std.specs.Prelude.{◌≡◌, ℕ, Bool, true, false, cond, List, [], ◌∷◌, map, Some, None, Option}
use Rattle.tags.specs.Kinds.{meaning_of, face_of}
use Rattle.tags.specs.declared.AlgorithmKind.{AlgorithmKind}
use Rattle.tags.specs.declared.HashKind.{HashKind}
use Rattle.node.specs.declared.replay.Call.{Call}
use Rattle.node.specs.declared.replay.Report.{Report}
use Rattle.node.specs.Replies.{Answer}
use Rattle.history.specs.Law.{Logged}
use Rattle.scripts.specs.declared.making.Making.{Making}
use Rattle.scripts.specs.declared.stage.Stage.TheVariants.{Waiting}
use Rattle.scripts.specs.declared.verb.Verb.{Verb}
use Rattle.scripts.specs.declared.verb.Verb.TheVariants.{Node, Calling, Meter, State}
use Rattle.scripts.specs.Calls.{spelled, calls_asked}
use Rattle.scripts.specs.Form.{Said}
use Rattle.scripts.specs.Making.{making_of}
use Rattle.scripts.specs.Reply.{transcript}
use Rattle.scripts.specs.Script.{script_of}

abbrev pub is_node : Verb → Bool
is_node Node = true
is_node (Calling d) = false
is_node Meter = false
is_node State = false

-- the calls, as the lines spell them, run on a new node of an algorithm and a hash, with tags of t bytes, an address of its own and the meter at 0
pub record Played (a : AlgorithmKind) (h : HashKind) (t own : ℕ) (lines : List Said) (answers : List Answer) (reports : List Report) : Type 0 where
  pub calls : List Call
  pub spell : map spelled calls ≡ lines
  pub ran : Logged (face_of a (meaning_of h)) (meaning_of h).added t own 0 calls answers reports

-- nothing is run where there is no such algorithm or hash
abbrev pub PlayedAs : Option Making → List Said → List Answer → List Report → Type 0
PlayedAs None lines answers reports = Unit {0}
PlayedAs (Some m) lines answers reports = Played m.algorithm m.hash m.t m.address lines answers reports

-- the first node line makes the node; nothing is run where there is none
abbrev pub PlayedIn : List (Option Said) → List Answer → List Report → Type 0
PlayedIn [] answers reports = Unit {0}
PlayedIn (None ∷ lines) answers reports = PlayedIn lines answers reports
PlayedIn (Some s ∷ lines) answers reports = cond (is_node s.verb) (PlayedAs (making_of s.numbers) (calls_asked lines) answers reports) (PlayedIn lines answers reports)

-- the replies to an input are those to its lines, with the answers and reports of the run
pub record Replied (input out : List ℕ) : Type 0 where
  pub answers : List Answer
  pub reports : List Report
  pub played : PlayedIn (script_of input) answers reports
  pub replies : out ≡ transcript answers reports Waiting (script_of input)
