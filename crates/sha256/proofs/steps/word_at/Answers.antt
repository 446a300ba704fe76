use Rattle.std.proofs.Common.{◌∙◌, arith}
use Rattle.hash.proofs.Window.{kept, word_of}
use Rattle.sha256.specs.Round.{schedule}
use Rattle.sha256.specs.Groups.{next}
use Rattle.sha256.proofs.steps.word_at.Goals as goal
use Rattle.sha256.proofs.steps.word_at.Goals.{then-t-ge16, else-t-ge16}

pub returns-clause-held : goal.returns-clause-held
returns-clause-held c block held =
    let before = c.args.window.now in
    let after = c.if-t-ge16.window in
    let t = c.args.t in
    elim c.if-t-ge16.branch [
      | then-t-ge16 w ↦ next block before after t w.if-t-ge16.true c.requires held (w.window-is ∙ w.renew.ensures)
      | else-t-ge16 w ↦ rw w.window-is (kept before (schedule block) t (omega (arith, w.if-t-ge16.false)) held)
    ]

pub returns-clause-word : goal.returns-clause-word
returns-clause-word c block held = word_of c.if-t-ge16.window (schedule block) c.args.t (returns-clause-held c block held)
