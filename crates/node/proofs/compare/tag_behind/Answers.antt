use Rattle.std.proofs.Common.{◌≡◌, ℕ, ◌-◌, take, ap, arith}
use Rattle.node.proofs.Whole.{tag_laid}
use Rattle.node.proofs.compare.tag_behind.Goals as goal

pub returns : goal.returns
returns g c =
    let whole : c.args.size - 0 ≡ c.args.size = omega arith in
    tag_laid g.H.Hash.next g.A.Algorithm.face g.A.Algorithm.laws _ _ c.args.record.now _ _ _ _ c.begin-run.ensures c.add.ensures
    c.args.out.now c.args.size c.args.t _ _ _ _ (ap (λ (i : ℕ). take i c.args.out.now) whole) c.requires c.end.ensures.ended
