use Rattle.std.proofs.Common.{sym, ap}
use Rattle.std.proofs.lemmas.Result.{err_from_is_err_and}
use Rattle.frame.specs.declared.Header.{Header}
use Rattle.node.proofs.Asked.{asks_unread, asks_no, asks_all}
use Rattle.node.proofs.Node.ask_frame.Goals as goal

pub returns-in_err-read : goal.returns-in_err-read
returns-in_err-read g c =
    let n = c.args.self.now in
    let p = err_from_is_err_and c.from_residual.result c.from_residual.ensures.1 in
    rw (p.1, p.2) (asks_unread g.A.Algorithm.face n.desk.hand c.args.frame.now n.t n.address n.slots n.desk.took (sym c.if-is_some.ensures) _ c.in_err-read.ensures.read)

pub returns-in_err-record : goal.returns-in_err-record
returns-in_err-record g c =
    let n = c.args.self.now in
    let p = err_from_is_err_and c.from_residual-in_err-record.result c.from_residual-in_err-record.ensures.1 in
    rw (p.1, p.2) (asks_no g.A.Algorithm.face n.desk.hand c.args.frame.now n.t n.address n.slots n.desk.took (sym c.if-is_some.ensures)
    c.in_ok-read.read c.from-fields.result c.header.result.address c.in_ok-read.ensures.read c.in_ok-read.ensures.fits c.from-fields.ensures
    (ap (λ (h : Header). h.address) c.header.ensures) _ c.in_err-record.ensures)

pub returns : goal.returns
returns g c =
    let n = c.args.self.now in
    asks_all g.A.Algorithm.face n.desk.hand c.args.frame.now n.t n.address n.slots n.desk.took (sym c.if-is_some.ensures)
    c.in_ok-read.read c.from-fields.result c.header.result.address c.in_ok-read.ensures.read c.in_ok-read.ensures.fits c.from-fields.ensures
    (ap (λ (h : Header). h.address) c.header.ensures) c.in_ok-record.record c.in_ok-record.ensures
