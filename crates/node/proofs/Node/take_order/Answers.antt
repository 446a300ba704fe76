use Rattle.node.proofs.Steps.{obeys_err}
use Rattle.node.proofs.Takes.{given_err, take_refused, takes_wrong, takes, taken_slot, taken_number}
use Rattle.node.proofs.Node.take_order.Goals as goal

pub returns-in_err-fields-clause-obeys : goal.returns-in_err-fields-clause-obeys
returns-in_err-fields-clause-obeys g c =
    obeys_err g.H.Hash.next g.A.Algorithm.face c.args.self.now _ _ _ (given_err c.from_residual.result _ c.from_residual.ensures.1)
    (λ m st. take_refused g.H.Hash.next g.A.Algorithm.face c.args.self.now m st c.args.frame.now _ c.in_err-fields.ensures)

pub returns-then-not-is_signed-clause-obeys : goal.returns-then-not-is_signed-clause-obeys
returns-then-not-is_signed-clause-obeys g c = λ m st. takes_wrong g.H.Hash.next g.A.Algorithm.face c.args.self.now m st c.args.frame.now c.requires c.in_ok-fields.fields c.in_ok-fields.record c.in_ok-fields.ensures c.is_signed.new.hash c.is_signed.result c.is_signed.ensures c.if-not-is_signed.true

pub take-requires : goal.take-requires
take-requires g c =
    let n = c.args.self.now in
    taken_slot g.A.Algorithm.face n.desk.hand c.args.frame.now n.t n.address n.slots n.desk.took c.in_ok-fields.fields c.in_ok-fields.record c.in_ok-fields.ensures

pub returns-clause-obeys : goal.returns-clause-obeys
returns-clause-obeys g c = λ m st. takes g.H.Hash.next g.A.Algorithm.face c.args.self.now m st c.args.frame.now c.requires c.in_ok-fields.fields c.in_ok-fields.record c.in_ok-fields.ensures c.is_signed.new.hash c.is_signed.result c.is_signed.ensures c.take.new.self c.if-not-is_signed.false c.take.ensures

pub returns-clause-numbered : goal.returns-clause-numbered
returns-clause-numbered g c =
    let n = c.args.self.now in
    taken_number g.A.Algorithm.face n.desk.hand c.args.frame.now n.t n.address n.slots n.desk.took c.in_ok-fields.fields c.in_ok-fields.record c.in_ok-fields.ensures
