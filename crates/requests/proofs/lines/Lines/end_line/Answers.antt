use Rattle.std.proofs.Common.{◌++◌, vec_items, refl, ap, ◌∙◌}
use Rattle.requests.proofs.Feeding.{reply_held}
use Rattle.requests.proofs.lines.Lines.end_line.Goals as goal

pub returns-clause-told : goal.returns-clause-told
returns-clause-told c pending s = (
  c.in_ok-answer_line.ensures.items ∙ ap (λ o. vec_items c.args.out.now ++ o) (reply_held c.args.self.now pending s),
  record { unbroken = refl; held = refl },
)
