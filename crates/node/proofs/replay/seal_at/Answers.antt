use Rattle.node.specs.Calls.{sealed_frame}
use Rattle.node.proofs.Places.{laid_first}
use Rattle.node.proofs.replay.seal_at.Goals as goal

pub returns-clause-place : goal.returns-clause-place
returns-clause-place g c = λ m st.
    let f = g.A.Algorithm.face in
    laid_first f m c.seal.result (sealed_frame f m c.args.slot c.args.kind c.args.body.now c.args.address) c.args.out.now c.seal.new.out c.min.result (c.seal.ensures.written m st) c.seal.auto.out
