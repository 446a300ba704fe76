use Rattle.std.proofs.Common.{◌≡◌, length, ap, ◌∙◌, rules}
use Rattle.mac.specs.Face.{free}
use Rattle.mac.specs.declared.Run.{Run}
use Rattle.node.proofs.Steps.{obeys_refused, obeys_no_lane, lane_there}
use Rattle.node.proofs.Runs.{drop_no_lane, drop_idle, drops}
use Rattle.node.proofs.Node.free_lane.Goals as goal

pub returns-in_err-run : goal.returns-in_err-run
returns-in_err-run g c =
    let n = c.args.self.now in
    let l4 : length n.lanes ≡ 4 = search rules in
    obeys_no_lane g.H.Hash.next g.A.Algorithm.face n _ _ _ c.args.lane c.from_residual.ensures.1 l4 c.in_err-run.ensures (λ m st. drop_no_lane g.H.Hash.next g.A.Algorithm.face g.A.Algorithm.laws n m st c.args.lane free)

pub returns-then-not-run : goal.returns-then-not-run
returns-then-not-run g c =
    let n = c.args.self.now in
    let l4 : length n.lanes ≡ 4 = search rules in
    let t = lane_there n.lanes c.args.lane _ l4 c.in_ok-run.ensures in
    obeys_refused g.H.Hash.next g.A.Algorithm.face n _ _ (λ m st. drop_idle g.H.Hash.next g.A.Algorithm.face g.A.Algorithm.laws n m st c.args.lane free t.0 (ap (λ (r : Run). r.begun) (t.1 _) ∙ c.if-not-run.true))

pub returns : goal.returns
returns g c = λ m st.
    let n = c.args.self.now in
    let l4 : length n.lanes ≡ 4 = search rules in
    let t = lane_there n.lanes c.args.lane _ l4 c.in_ok-run.ensures in
    drops g.H.Hash.next g.A.Algorithm.face g.A.Algorithm.laws n m st c.args.lane free _ t.0 l4 (ap (λ (r : Run). r.begun) (t.1 _) ∙ c.if-not-run.false) c.free_run.ensures
