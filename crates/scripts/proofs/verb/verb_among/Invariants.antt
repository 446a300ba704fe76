use Rattle.std.proofs.Common.{◌≡◌, drop}
use Rattle.scripts.specs.Form.{verb_in}
use Rattle.scripts.proofs.verb.verb_among.Given as goal

abbrev pub invariant-loop-verb : goal.invariant-loop-verb
invariant-loop-verb l = verb_in (drop l.verb-index l.verbs) l.word ≡ verb_in l.verbs l.word
