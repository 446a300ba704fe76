use Rattle.std.proofs.Common.{arith}
use Rattle.std.proofs.lemmas.Bool.Decides.{Decides-eqb}
use Rattle.std.proofs.lemmas.Slice.Eq.{slice_eq-Decides}
use Rattle.scripts.proofs.Names.{name_found, name_more, name_none}
use Rattle.scripts.proofs.verb.verb_among.Goals as goal

pub returns-then-eq : goal.returns-then-eq
returns-then-eq c =
    name_found c.args.verbs.now c.args.word.now c.loop-verb.verb-index _ c.name.result.now c.eq.result (omega arith) c.name.ensures (slice_eq-Decides Decides-eqb _ _ _ c.eq.ensures) c.if-eq.true c.loop-verb.invariant

pub loop-verb-preserved : goal.loop-verb-preserved
loop-verb-preserved c =
    name_more c.args.verbs.now c.args.word.now c.loop-verb.verb-index _ c.name.result.now c.eq.result (omega arith) c.name.ensures (slice_eq-Decides Decides-eqb _ _ _ c.eq.ensures) c.if-eq.false c.loop-verb.invariant

pub returns : goal.returns
returns c = name_none c.args.verbs.now c.args.word.now c.loop-verb.verb-index (omega arith) c.loop-verb.invariant
