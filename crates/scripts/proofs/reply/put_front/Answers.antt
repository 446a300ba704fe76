use Rattle.std.proofs.Common.{◌++◌, vec_items, sym, ap, ◌∙◌}
use Rattle.std.proofs.lemmas.List.{take_all}
use Rattle.std.proofs.lemmas.Result.{IfOk-weaker}
use Rattle.text.specs.Hex.{hex_of}
use Rattle.scripts.proofs.reply.put_front.Goals as goal

pub returns-else-n-place : goal.returns-else-n-place
returns-else-n-place c =
    IfOk-weaker c.put_bytes-else-n-place.result _ _
    (λ x e. e ∙ ap (λ l. vec_items c.args.out.now ++ (c.args.word.now ++ hex_of l)) (sym (take_all c.args.n c.args.place.now c.if-n-place.false)))
    c.put_bytes-else-n-place.ensures
