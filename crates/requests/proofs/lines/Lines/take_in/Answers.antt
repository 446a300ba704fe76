use Rattle.std.proofs.Common.{take, vec_items}
use Rattle.std.proofs.lemmas.Result.{MatchResult-from_err}
use Rattle.requests.proofs.Feeding.{fed_more, fed_same}
use Rattle.requests.proofs.lines.Lines.take_in.Goals as goal

pub loop-b-preserved : goal.loop-b-preserved
loop-b-preserved c =
    fed_more c.args.self.now c.loop-b.self c.step.new.self (vec_items c.args.out.now) (vec_items c.loop-b.out) (vec_items c.step.new.out) c.args.chunk.now c.loop-b.b-index c.loop-b-test.true c.loop-b.invariant c.in_ok-step.ensures

pub returns-in_err-step : goal.returns-in_err-step
returns-in_err-step c =
    MatchResult-from_err c.from_residual.result _ _ c.from_residual.ensures.0
    (λ e. (
      c.loop-b.b-index,
      fed_same c.args.self.now c.loop-b.self c.step.new.self (vec_items c.args.out.now) (vec_items c.loop-b.out) (vec_items c.step.new.out) (take c.loop-b.b-index c.args.chunk.now) c.loop-b.invariant c.in_err-step.ensures,
    ))
