use Rattle.std.proofs.Common.{◌++◌, vec_items, decimal, ap, ◌∙◌}
use Rattle.std.proofs.lemmas.Result.{IfOk-weaker}
use Rattle.scripts.proofs.Writing.{joins}
use Rattle.scripts.proofs.reply.put_state.Goals as goal

pub returns : goal.returns
returns c =
    IfOk-weaker c.put_spaced.result _ _
    (λ x e. joins (vec_items c.args.out.now) _ _ _ _ (c.in_ok-put_decimal.ensures.items ∙ ap (λ n. vec_items c.args.out.now ++ decimal n) c.from.ensures) e)
    c.put_spaced.ensures
