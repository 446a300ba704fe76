use Rattle.std.proofs.Common.{◌≡◌, ◌/◌, ◌∙◌, arith}
use Rattle.hash.proofs.Window.{goes_on}
use Rattle.sha_1.specs.Round.{one1, schedule}
use Rattle.sha_1.proofs.steps.five_steps.Goals as goal

pub loop-t-preserved : goal.loop-t-preserved
loop-t-preserved g c chain block start =
    let l = c.loop-t in
    let now = l.invariant chain block start in
    let word = c.word_at-w in
    let quarter : g.row.FROM / 20 ≡ l.t / 20 = omega arith in
    goes_on (one1 c.args.keys.now) chain (schedule block) l.window l.s word.new.window c.step.result l.t word.result now
    (word.ensures.held block now.held) (word.ensures.word block now.held) (c.step.ensures ∙ rw quarter)
