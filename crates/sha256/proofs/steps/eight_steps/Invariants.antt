use Rattle.std.proofs.Common.{ℕ, List}
use Rattle.hash.specs.Windows.{Before}
use Rattle.sha256.specs.Round.{one256, schedule}
use Rattle.sha256.proofs.steps.eight_steps.Given as goal

-- the steps before step t are made
abbrev pub invariant-loop-t : goal.invariant-loop-t
invariant-loop-t g l =
    (chain block : List ℕ) → Before one256 chain (schedule block) l.initial.window l.initial.s g.row.FROM → Before one256 chain (schedule block) l.window l.s l.t
