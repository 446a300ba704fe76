use Rattle.std.proofs.Common.{◌≡◌, ℕ, suc, zero, ◌-◌, List, ◌∷◌, get_or, vec_items, refl, ap, ◌∙◌, arith, rules}
use Rattle.std.proofs.lemmas.Grind.{common_steps}
use Rattle.node.specs.declared.replay.Report.{Report}
use Rattle.history.specs.Law.{report_at}
use Rattle.history.specs.Logs.{reports_in}
use Rattle.scripts.proofs.answer.report_after.Goals as goal

behind_first : (r : Report) (rs : List Report) (k : ℕ) → (k ≡ 0 → ⊥) → report_at rs (k - 1) ≡ report_at (r ∷ rs) k
behind_first r rs zero some = absurd (some refl)
behind_first r rs (suc k) some = ap (report_at rs) (omega arith)

pub returns : goal.returns
returns c =
    let rs = reports_in (vec_items c.args.log.now.steps) in
    let got : c.map_or.result ≡ get_or rs (c.args.k - 1) c.default.result = grind (arith, common_steps) in
    let none : c.default.result ≡ record { reading = 0; level = 0; taken = 0; carried = 0; declined = 0 } = search rules in
    got ∙ ap (get_or rs (c.args.k - 1)) none ∙ behind_first _ rs c.args.k c.if-k-eq0.false
