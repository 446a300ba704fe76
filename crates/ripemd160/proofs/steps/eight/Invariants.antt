use Rattle.std.proofs.Common.{◌≡◌, ◌-◌}
use Rattle.ripemd160.specs.Round.{left, right, steps}
use Rattle.ripemd160.proofs.steps.eight.Given as goal

-- i - F steps of each line are made
abbrev pub invariant-loop-i : goal.invariant-loop-i
invariant-loop-i g l =
    (l.l ≡ steps left g.row.R l.kl l.xs l.initial.l g.row.F (l.i - g.row.F)) ×
    (l.r ≡ steps right g.row.R l.kr l.xs l.initial.r g.row.F (l.i - g.row.F))
