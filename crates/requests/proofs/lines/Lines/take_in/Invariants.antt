use Rattle.std.proofs.Common.{take, vec_items}
use Rattle.requests.specs.Stands.{Fed}
use Rattle.requests.proofs.lines.Lines.take_in.Given as goal

abbrev pub invariant-loop-b : goal.invariant-loop-b
invariant-loop-b l =
    Fed l.initial.self (vec_items l.initial.out) (take l.b-index l.chunk) l.self (vec_items l.out)
