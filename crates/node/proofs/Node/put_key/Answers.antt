use Rattle.std.proofs.Common.{◌≡◌, ◌<◌, length, arith, rules}
use Rattle.std.proofs.lemmas.Result.{err_from_is_err_and}
use Rattle.node.proofs.Steps.{obeys_refused}
use Rattle.node.proofs.Keys.{install_no_slot, installs, install_odd}
use Rattle.node.proofs.Node.put_key.Goals as goal

pub returns-then-slot-ge-SLOTS : goal.returns-then-slot-ge-SLOTS
returns-then-slot-ge-SLOTS g c = obeys_refused g.H.Hash.next g.A.Algorithm.face c.args.self.now _ _ (λ m st. install_no_slot g.H.Hash.next g.A.Algorithm.face c.args.self.now m st c.args.slot c.args.key.now (omega arith))

pub returns-in_err-expand : goal.returns-in_err-expand
returns-in_err-expand g c =
    let p = err_from_is_err_and c.from_residual.result c.from_residual.ensures.1 in
    let s8 : c.args.slot < 8 = omega arith in
    rw (p.1, p.2) (λ m st. install_odd g.H.Hash.next g.A.Algorithm.face c.args.self.now m st c.args.slot s8 c.args.key.now c.expand.new.hash _ c.in_err-expand.ensures.made)

pub returns : goal.returns
returns g c =
    let n = c.args.self.now in
    let l8 : length n.slots ≡ 8 = search rules in
    let s8 : c.args.slot < 8 = omega arith in
    λ m st. installs g.H.Hash.next g.A.Algorithm.face n m st c.args.slot s8 c.args.key.now c.expand.new.hash _ l8 c.in_ok-expand.ensures.made
