use Rattle.std.proofs.Common.{vec_items}
use Rattle.history.specs.Logs.{answers_of, reports_of}
use Rattle.scripts.proofs.Replying.{Told-so-far}
use Rattle.scripts.proofs.answer.answer_lines.Given as goal

abbrev pub invariant-loop-line : goal.invariant-loop-line
invariant-loop-line l = Told-so-far (answers_of l.log) (reports_of l.log) l.lines l.line-index l.stage (vec_items l.out)
