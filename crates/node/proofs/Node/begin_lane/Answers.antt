use Rattle.std.proofs.Common.{◌≡◌, length, ap, ◌∙◌, rules}
use Rattle.mac.specs.Face.{free}
use Rattle.mac.specs.declared.Run.{Run}
use Rattle.node.proofs.Steps.{obeys_refused, obeys_err, obeys_no_lane, keyed, lane_there}
use Rattle.node.proofs.Runs.{open_no_lane, open_unkeyed, open_busy, opens}
use Rattle.node.proofs.Node.begin_lane.Goals as goal

pub returns-in_err-run : goal.returns-in_err-run
returns-in_err-run g c =
    let n = c.args.self.now in
    let l4 : length n.lanes ≡ 4 = search rules in
    obeys_no_lane g.H.Hash.next g.A.Algorithm.face n _ _ _ c.args.lane c.from_residual.ensures.1 l4 c.in_err-run.ensures (λ m st. open_no_lane g.H.Hash.next g.A.Algorithm.face g.A.Algorithm.laws n m st c.args.lane free c.args.slot)

pub returns-in_err-record : goal.returns-in_err-record
returns-in_err-record g c =
    let n = c.args.self.now in
    let l4 : length n.lanes ≡ 4 = search rules in
    let t = lane_there n.lanes c.args.lane _ l4 c.in_ok-run.ensures in
    obeys_err g.H.Hash.next g.A.Algorithm.face n _ _ _ c.from_residual-in_err-record.ensures.1 (λ m st. open_unkeyed g.H.Hash.next g.A.Algorithm.face g.A.Algorithm.laws n m st c.args.lane free c.args.slot _ t.0 c.in_err-record.ensures)

pub returns-then-run : goal.returns-then-run
returns-then-run g c =
    let n = c.args.self.now in
    let l4 : length n.lanes ≡ 4 = search rules in
    let t = lane_there n.lanes c.args.lane _ l4 c.in_ok-run.ensures in
    obeys_refused g.H.Hash.next g.A.Algorithm.face n _ _ (λ m st.
    let k = keyed g.H.Hash.next g.A.Algorithm.face n m st c.args.slot _ c.in_ok-record.ensures in
    open_busy g.H.Hash.next g.A.Algorithm.face g.A.Algorithm.laws n m st c.args.lane free c.args.slot _ t.0 k.0 k.1 (ap (λ (r : Run). r.begun) (t.1 _) ∙ c.if-run.true))

pub returns : goal.returns
returns g c = λ m st.
    let n = c.args.self.now in
    let l4 : length n.lanes ≡ 4 = search rules in
    let t = lane_there n.lanes c.args.lane _ l4 c.in_ok-run.ensures in
    let k = keyed g.H.Hash.next g.A.Algorithm.face n m st c.args.slot _ c.in_ok-record.ensures in
    opens g.H.Hash.next g.A.Algorithm.face g.A.Algorithm.laws n m st c.args.lane free c.args.slot _ _ t.0 k.0 l4 k.1 (ap (λ (r : Run). r.begun) (t.1 _) ∙ c.if-run.false) c.begin.ensures
