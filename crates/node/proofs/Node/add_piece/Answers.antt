use Rattle.std.proofs.Common.{◌≡◌, length, rules}
use Rattle.mac.specs.Face.{free}
use Rattle.node.proofs.Steps.{obeys_no_lane, lane_there}
use Rattle.node.proofs.Runs.{feed_no_lane, feeds}
use Rattle.node.proofs.Node.add_piece.Goals as goal

pub returns-in_err-lane : goal.returns-in_err-lane
returns-in_err-lane g c =
    let n = c.args.self.now in
    let l4 : length n.lanes ≡ 4 = search rules in
    obeys_no_lane g.H.Hash.next g.A.Algorithm.face n _ _ _ c.args.lane c.from_residual.ensures.1 l4 c.in_err-lane.ensures (λ m st. feed_no_lane g.H.Hash.next g.A.Algorithm.face g.A.Algorithm.laws n m st c.args.lane free c.args.piece.now)

pub returns : goal.returns
returns g c = λ m st.
    let n = c.args.self.now in
    let l4 : length n.lanes ≡ 4 = search rules in
    let t = lane_there n.lanes c.args.lane _ l4 c.in_ok-lane.ensures in
    feeds g.H.Hash.next g.A.Algorithm.face g.A.Algorithm.laws n m st c.args.lane _ t.0 l4 _ _ _ _ c.add.ensures
