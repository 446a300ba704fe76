use Rattle.scripts.proofs.Playing.{Goes_on}
use Rattle.scripts.proofs.play.run_script.Given as goal

abbrev pub invariant-loop-i : goal.invariant-loop-i
invariant-loop-i l = Goes_on l.lines l.i
