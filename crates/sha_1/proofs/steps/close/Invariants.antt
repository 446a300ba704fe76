use Rattle.std.proofs.Common.{◌≡◌, length}
use Rattle.hash.specs.Rounds.{added}
use Rattle.sha_1.proofs.steps.close.Given as goal

abbrev pub invariant-loop-i : goal.invariant-loop-i
invariant-loop-i l = (length l.chain ≡ 8) × (l.chain ≡ added l.initial.chain l.last l.i)
