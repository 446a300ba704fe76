use Rattle.std.proofs.Common.{vec_items, arith, rules}
use Rattle.history.proofs.Whole.{logged_more, logged_all}
use Rattle.history.proofs.log_all.Goals as goal

pub loop-call-preserved : goal.loop-call-preserved
loop-call-preserved g c =
    let so = c.loop-call.invariant.3 in (
      search rules,
      search rules,
      omega arith,
      logged_more g.H.Hash.next g.A.Algorithm.face g.H.Hash.reading g.met.H.Hash.capped g.met.H.Hash.counts g.H.Hash.meaning.added c.args.t c.args.address c.make-replay.result.node.hash c.args.calls.now c.report-start.result _ _ c.loop-call.call-index _ (vec_items c.loop-call.steps) _ _ c.loop-call-test.true c.next_step.ensures.goes_on c.next_step.ensures.report c.push_reserved.ensures.items so,
    )

pub returns : goal.returns
returns g c =
    record {
      ran = logged_all g.H.Hash.next g.A.Algorithm.face g.H.Hash.reading g.met.H.Hash.capped g.met.H.Hash.counts g.H.Hash.meaning.added c.args.t c.args.address c.make-replay.result.node.hash c.args.calls.now c.report-start.result _ _ (vec_items c.loop-call.steps) _ c.loop-call-test.false c.loop-call.invariant.2 c.make-replay.ensures.hash c.loop-call.invariant.3;
    }
