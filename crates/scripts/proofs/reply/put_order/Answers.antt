use Rattle.std.proofs.Common.{[], ◌∷◌, ◌++◌, vec_items, codes, ◌∙◌}
use Rattle.std.proofs.lemmas.Result.{IfOk-weaker}
use Rattle.scripts.specs.Reply.{spaced}
use Rattle.scripts.proofs.Writing.{joins}
use Rattle.scripts.proofs.reply.put_order.Goals as goal

pub returns : goal.returns
returns c =
    IfOk-weaker c.put_spaced.result _ _
    (λ x e. joins (vec_items c.args.out.now) _ _ (codes "order") _ c.in_ok-extend_from_slice.ensures.items (e ∙ (λ j. vec_items c.extend_from_slice.new.self ++ spaced (c.from.ensures j ∷ c.from-2.ensures j ∷ c.from-3.ensures j ∷ c.from-4.ensures j ∷ c.from-5.ensures j ∷ c.from-6.ensures j ∷ []))))
    c.put_spaced.ensures
