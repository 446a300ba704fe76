use Rattle.std.proofs.Common.{[], ◌∷◌, ◌++◌, vec_items, codes, ap, ◌∙◌}
use Rattle.std.proofs.lemmas.Result.{IfOk-weaker}
use Rattle.scripts.specs.Reply.{spaced}
use Rattle.scripts.proofs.Writing.{joins}
use Rattle.scripts.proofs.reply.put_refusal.Goals as goal

pub returns : goal.returns
returns c =
    IfOk-weaker c.put_spaced.result _ _
    (λ x e. joins (vec_items c.args.out.now) _ _ (codes "no") _ c.in_ok-extend_from_slice.ensures.items (e ∙ ap (λ n. vec_items c.extend_from_slice.new.self ++ spaced (n ∷ [])) (c.from-2.ensures ∙ c.from.ensures)))
    c.put_spaced.ensures
