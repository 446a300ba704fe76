use Rattle.node.specs.Calls.{tag_at}
use Rattle.node.proofs.Places.{laid_first}
use Rattle.node.proofs.replay.finish_at.Goals as goal

pub returns-clause-place : goal.returns-clause-place
returns-clause-place g c = λ m st.
    let f = g.A.Algorithm.face in
    laid_first f m c.finish.result (tag_at f m c.args.lane) c.args.out.now c.finish.new.out c.min.result (c.finish.ensures.written m st) c.finish.auto.out
