use Rattle.node.proofs.Whole.{signed_compared}
use Rattle.node.proofs.compare.is_signed.Goals as goal

pub returns-then-is_ok : goal.returns-then-is_ok
returns-then-is_ok g c = signed_compared g.H.Hash.next g.A.Algorithm.face g.A.Algorithm.laws _ _ c.args.record.now _ _ _ _ c.begin-run.ensures c.add.ensures _ c.split_tag.ensures.signed _ _ _ c.split_tag.ensures.tag c.is_tag.ensures
