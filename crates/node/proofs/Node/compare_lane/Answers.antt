use Rattle.std.proofs.Common.{◌≡◌, length, ap, ◌∙◌, rules}
use Rattle.std.proofs.lemmas.List.{set-set}
use Rattle.mac.specs.Face.{free}
use Rattle.mac.specs.declared.Run.{Run}
use Rattle.node.proofs.Steps.{obeys_refused, obeys_no_lane, lane_there}
use Rattle.node.proofs.Runs.{judge_no_lane, judge_idle, judge_odd, judges}
use Rattle.node.proofs.Node.compare_lane.Goals as goal

pub returns-in_err-run : goal.returns-in_err-run
returns-in_err-run g c =
    let n = c.args.self.now in
    let l4 : length n.lanes ≡ 4 = search rules in
    obeys_no_lane g.H.Hash.next g.A.Algorithm.face n _ _ _ c.args.lane c.from_residual.ensures.1 l4 c.in_err-run.ensures (λ m st. judge_no_lane g.H.Hash.next g.A.Algorithm.face g.A.Algorithm.laws n m st c.args.lane free c.args.tag.now)

pub returns-then-not-run : goal.returns-then-not-run
returns-then-not-run g c =
    let n = c.args.self.now in
    let l4 : length n.lanes ≡ 4 = search rules in
    let t = lane_there n.lanes c.args.lane _ l4 c.in_ok-run.ensures in
    obeys_refused g.H.Hash.next g.A.Algorithm.face n _ _ (λ m st. judge_idle g.H.Hash.next g.A.Algorithm.face g.A.Algorithm.laws n m st c.args.lane free c.args.tag.now t.0 (ap (λ (r : Run). r.begun) (t.1 _) ∙ c.if-not-run.true))

pub returns-then-tag-self : goal.returns-then-tag-self
returns-then-tag-self g c =
    let n = c.args.self.now in
    let l4 : length n.lanes ≡ 4 = search rules in
    let t = lane_there n.lanes c.args.lane _ l4 c.in_ok-run.ensures in
    obeys_refused g.H.Hash.next g.A.Algorithm.face n _ _ (λ m st. judge_odd g.H.Hash.next g.A.Algorithm.face g.A.Algorithm.laws n m st c.args.lane free c.args.tag.now t.0 (ap (λ (r : Run). r.begun) (t.1 _) ∙ c.if-not-run.false) c.if-tag-self.true)

pub returns : goal.returns
returns g c = λ m st.
    let n = c.args.self.now in
    let l4 : length n.lanes ≡ 4 = search rules in
    let t = lane_there n.lanes c.args.lane _ l4 c.in_ok-run.ensures in
    judges g.H.Hash.next g.A.Algorithm.face g.A.Algorithm.laws n m st c.args.lane _ c.args.tag.now _ _ _ _ t.0 l4 c.requires (ap (λ (r : Run). r.begun) (t.1 _) ∙ c.if-not-run.false) c.if-tag-self.false (set-set n.lanes c.args.lane _ _) c.free_run.ensures c.is_tag-right.ensures
