use Rattle.std.proofs.Common.{vec_items}
use Rattle.std.proofs.lemmas.Result.{IfOk-weaker}
use Rattle.scripts.proofs.Writing.{joins, fine_from}
use Rattle.scripts.proofs.reply.put_bytes.Goals as goal

pub returns : goal.returns
returns c =
    IfOk-weaker c.put_hex.result _ _
    (λ x e. joins (vec_items c.args.out.now) _ _ _ _ c.in_ok-extend_from_slice.ensures.items e)
    (fine_from c.put_hex.result _ _ _ c.put_hex.ensures.items)
