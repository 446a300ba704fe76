-- A result as an answer. Assumes nothing.
use Rattle.std.specs.Prelude.{ℕ, Bool, List, Ok, Err, Result}
use Rattle.refusals.specs.declared.Refusal.{Refusal}
use Rattle.node.specs.declared.desk.Fields.{Fields}
use Rattle.node.specs.declared.replay.Outcome.{Outcome}
use Rattle.node.specs.declared.replay.Outcome.TheVariants.{Done, Tag, Verdict, Frame, Given}

-- what came of a call, or why it was refused
abbrev pub Answer : Type 0
Answer = Result Outcome Refusal

abbrev pub done_of : Result Unit Refusal → Answer
done_of (Ok u) = Ok Done
done_of (Err e) = Err e

abbrev pub tag_of : List ℕ → Result Unit Refusal → Answer
tag_of place (Ok u) = Ok (Tag place)
tag_of place (Err e) = Err e

abbrev pub verdict_of : Result Bool Refusal → Answer
verdict_of (Ok v) = Ok (Verdict v)
verdict_of (Err e) = Err e

-- a frame of n bytes, first in a place
abbrev pub framed : List ℕ → ℕ → Outcome
framed place n = Frame (record { place = place; length = n })

abbrev pub frame_of : List ℕ → Result ℕ Refusal → Answer
frame_of place (Ok n) = Ok (framed place n)
frame_of place (Err e) = Err e

abbrev pub fields_of : Result Fields Refusal → Answer
fields_of (Ok o) = Ok (Given o)
fields_of (Err e) = Err e
