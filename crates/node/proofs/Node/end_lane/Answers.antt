use Rattle.std.proofs.Common.{◌≡◌, length, rules}
use Rattle.mac.specs.Face.{free}
use Rattle.node.proofs.Steps.{obeys_no_lane, unwritten, lane_there}
use Rattle.node.proofs.Runs.{finish_no_lane, finishes}
use Rattle.node.proofs.Node.end_lane.Goals as goal

pub returns-in_err-lane : goal.returns-in_err-lane
returns-in_err-lane g c =
    let n = c.args.self.now in
    let l4 : length n.lanes ≡ 4 = search rules in
    record {
      obeys = obeys_no_lane g.H.Hash.next g.A.Algorithm.face n _ _ _ c.args.lane c.from_residual.ensures.1 l4 c.in_err-lane.ensures (λ m st. finish_no_lane g.H.Hash.next g.A.Algorithm.face g.A.Algorithm.laws n m st c.args.lane free _);
      written = λ m st. unwritten g.A.Algorithm.face m _ _ _ _ c.from_residual.ensures.1;
    }

pub returns : goal.returns
returns g c =
    let n = c.args.self.now in
    let l4 : length n.lanes ≡ 4 = search rules in
    let t = lane_there n.lanes c.args.lane _ l4 c.in_ok-lane.ensures in
    record {
      obeys = λ m st. (finishes g.H.Hash.next g.A.Algorithm.face g.A.Algorithm.laws n m st c.args.lane _ t.0 l4 _ _ _ c.requires _ _ c.end.ensures.ended g.met.A.Algorithm.sized).0;
      written = λ m st. (finishes g.H.Hash.next g.A.Algorithm.face g.A.Algorithm.laws n m st c.args.lane _ t.0 l4 _ _ _ c.requires _ _ c.end.ensures.ended g.met.A.Algorithm.sized).1;
    }
