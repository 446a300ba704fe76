use Rattle.std.proofs.Common.{vec_items, arith, rules}
use Rattle.history.proofs.Whole.{ran_more, ran_all}
use Rattle.history.proofs.perform_all.Goals as goal

pub loop-call-preserved : goal.loop-call-preserved
loop-call-preserved g c =
    let so = c.loop-call.invariant.3 in (
      search rules,
      search rules,
      omega arith,
      ran_more g.H.Hash.next g.A.Algorithm.face g.H.Hash.meaning.added c.args.t c.args.address c.make-replay.result.node.hash c.args.calls.now _ _ c.loop-call.call-index _ (vec_items c.loop-call.answers) _ _ c.loop-call-test.true c.perform.ensures c.push_reserved.ensures.items so,
    )

pub returns-clause-ran : goal.returns-clause-ran
returns-clause-ran g c =
    ran_all g.H.Hash.next g.A.Algorithm.face g.H.Hash.meaning.added c.args.t c.args.address c.make-replay.result.node.hash c.args.calls.now g.H.Hash.reading g.met.H.Hash.capped g.met.H.Hash.counts _ _ (vec_items c.loop-call.answers) _ _ c.loop-call-test.false c.loop-call.invariant.2 c.make-replay.ensures.hash c.report.ensures c.loop-call.invariant.3
