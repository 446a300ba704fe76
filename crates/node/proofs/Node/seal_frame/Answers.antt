use Rattle.node.proofs.Steps.{obeys_err}
use Rattle.node.proofs.Seals.{seal_refused, seals, seals_written}
use Rattle.node.proofs.Node.seal_frame.Goals as goal

pub returns-in_err-record-clause-obeys : goal.returns-in_err-record-clause-obeys
returns-in_err-record-clause-obeys g c =
    obeys_err g.H.Hash.next g.A.Algorithm.face c.args.self.now _ _ _ c.from_residual.ensures.1
    (λ m st. seal_refused g.H.Hash.next g.A.Algorithm.face c.args.self.now m st c.args.slot c.args.kind c.args.address c.args.body.now c.args.out.now _ c.in_err-record.ensures)

pub returns : goal.returns
returns g c = record {
  obeys = λ m st. seals g.H.Hash.next g.A.Algorithm.face c.args.self.now m st c.args.slot c.args.kind c.args.address c.args.body.now c.args.out.now g.met.A.Algorithm.sized c.requires
      c.in_ok-record.record c.in_ok-record.ensures c.saturating_add-number.result c.saturating_add-number.ensures c.write_front.new.out c.write_front.ensures.out c.tag_behind.new.out c.tag_behind.new.hash c.tag_behind.result c.tag_behind.ensures
      c.seal.new.self c.seal.ensures;
  written = λ m st. seals_written g.H.Hash.next g.A.Algorithm.face c.args.self.now m st c.args.slot c.args.kind c.args.address c.args.body.now c.args.out.now g.met.A.Algorithm.sized c.requires
      c.in_ok-record.record c.in_ok-record.ensures c.saturating_add-number.result c.saturating_add-number.ensures c.write_front.new.out c.write_front.ensures.out c.tag_behind.new.out c.tag_behind.new.hash c.tag_behind.result c.tag_behind.ensures
      c.seal.new.self c.seal.ensures;
}
