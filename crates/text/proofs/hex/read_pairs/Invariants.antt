use Rattle.text.proofs.Pairs.{Read}
use Rattle.text.proofs.hex.read_pairs.Given as goal

abbrev pub invariant-loop-i : goal.invariant-loop-i
invariant-loop-i l = Read l.pairs l.i l.place
