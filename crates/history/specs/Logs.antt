-- What a log holds, as the lists that the law speaks of. Assumes nothing.
use Rattle.std.specs.Prelude.{List, ◌∷◌, map, length, vec_items}
use Rattle.node.specs.declared.replay.Report.{Report}
use Rattle.node.specs.Replies.{Answer}
use Rattle.history.specs.declared.Log.{Log}
use Rattle.history.specs.declared.Step.{Step}
use Rattle.history.specs.Law.{report_at}

-- the answers of some calls, and the reports after each
abbrev pub answers_in : List Step → List Answer
answers_in steps = map (λ (s : Step). s.answer) steps

abbrev pub reports_in : List Step → List Report
reports_in steps = map (λ (s : Step). s.report) steps

abbrev pub answers_of : Log → List Answer
answers_of l = answers_in (vec_items l.steps)

-- a report before the first call, and after each one
abbrev pub reports_of : Log → List Report
reports_of l = l.start ∷ reports_in (vec_items l.steps)

-- the report after the last call
abbrev pub last_of : Log → Report
last_of l = report_at (reports_of l) (length (answers_of l))
