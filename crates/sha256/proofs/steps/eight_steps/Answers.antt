use Rattle.std.proofs.Common.{◌∙◌}
use Rattle.hash.proofs.Window.{goes_on}
use Rattle.sha256.specs.Round.{one256, schedule}
use Rattle.sha256.proofs.steps.eight_steps.Goals as goal

pub loop-t-preserved : goal.loop-t-preserved
loop-t-preserved g c chain block start =
    let l = c.loop-t in
    let now = l.invariant chain block start in
    let word = c.word_at-w in
    goes_on one256 chain (schedule block) l.window l.s word.new.window c.step.result l.t word.result now
    (word.ensures.held block now.held) (word.ensures.word block now.held) (c.step.ensures ∙ rw c.constant_at.ensures.value)
