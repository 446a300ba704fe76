use Rattle.std.proofs.Common.{◌≡◌, length, rules}
use Rattle.node.proofs.Steps.{obeys_err, keyed}
use Rattle.node.proofs.Keys.{clear_unkeyed, clears}
use Rattle.node.proofs.Node.empty_slot.Goals as goal

pub returns-in_err-key_record : goal.returns-in_err-key_record
returns-in_err-key_record g c = obeys_err g.H.Hash.next g.A.Algorithm.face c.args.self.now _ _ _ c.from_residual.ensures.1 (λ m st. clear_unkeyed g.H.Hash.next g.A.Algorithm.face c.args.self.now m st c.args.slot _ c.in_err-key_record.ensures)

pub returns : goal.returns
returns g c = λ m st.
    let n = c.args.self.now in
    let l8 : length n.slots ≡ 8 = search rules in
    let k = keyed g.H.Hash.next g.A.Algorithm.face n m st c.args.slot _ c.in_ok-key_record.ensures in
    clears g.H.Hash.next g.A.Algorithm.face n m st c.args.slot k.0 l8 _ k.1
