use Rattle.std.proofs.Common.{ℕ, List}
use Rattle.hash.specs.Windows.{Before}
use Rattle.sha_1.specs.Round.{one1, schedule}
use Rattle.sha_1.proofs.steps.five_steps.Given as goal

-- the steps before step t are made
abbrev pub invariant-loop-t : goal.invariant-loop-t
invariant-loop-t g l =
    (chain block : List ℕ) → Before (one1 l.keys) chain (schedule block) l.initial.window l.initial.s g.row.FROM → Before (one1 l.keys) chain (schedule block) l.window l.s l.t
