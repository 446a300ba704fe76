use Rattle.std.proofs.Common.{leb, refl}
use Rattle.caller.proofs.Ends.{ok_before, not_refused, ended_by}
use Rattle.caller.proofs.spend.Goals as goal

pub returns-in_err-map_err-clause-spends : goal.returns-in_err-map_err-clause-spends
returns-in_err-map_err-clause-spends g c = λ m st.
    let is = ok_before _ c.take.result c.in_ok-order.order c.in_ok-order.ensures.cases in
    let told = ended_by g.H.Hash.next g.A.Algorithm.face c.args.most c.args.node.now c.take.new.self c.args.frame.now m st c.take.result c.in_ok-order.order c.fields.result c.fields.ensures is c.take.ensures.obeys
    c.end_order.new.node c.end_order.result (leb c.fields.result.level c.args.most) refl c.end_order.ensures in
    absurd (not_refused c.end_order.result c.map_err-2.result _ told.0 c.map_err-2.ensures.variant c.in_err-map_err.was)

pub returns-clause-spends : goal.returns-clause-spends
returns-clause-spends g c = λ m st.
    let is = ok_before _ c.take.result c.in_ok-order.order c.in_ok-order.ensures.cases in
    let told = ended_by g.H.Hash.next g.A.Algorithm.face c.args.most c.args.node.now c.take.new.self c.args.frame.now m st c.take.result c.in_ok-order.order c.fields.result c.fields.ensures is c.take.ensures.obeys
    c.end_order.new.node c.end_order.result (leb c.fields.result.level c.args.most) refl c.end_order.ensures in
    (told.1, tt)
