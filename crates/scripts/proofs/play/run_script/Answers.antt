use Rattle.std.proofs.Common.{ap}
use Rattle.std.proofs.lemmas.Result.{IfOk-weaker}
use Rattle.scripts.specs.Play.{is_node}
use Rattle.scripts.proofs.Playing.{no_node, play_node, play_form, play_other, play_none}
use Rattle.scripts.proofs.play.run_script.Goals as goal
use Rattle.scripts.proofs.play.run_script.Goals.{in-Some+in_default-verb, in_default}

pub loop-i-init : goal.loop-i-init
loop-i-init c = λ answers reports p. p

pub returns-in-Node : goal.returns-in-Node
returns-in-Node c =
    IfOk-weaker c.run_lines.result _ _
    (λ l p. c.loop-i.invariant _ _ (play_node c.args.lines.now c.loop-i.i c.index-lines-i.result c.loop-i-test.true c.index-lines-i.is _ _ c.in-Some.command c.in-Some.is (ap is_node c.in-Node.is) p))
    c.run_lines.ensures

pub loop-i-preserved : goal.loop-i-preserved
loop-i-preserved c answers reports p =
    c.loop-i.invariant answers reports
    (elim c.match-line.branch [ in-Some+in_default-verb w ↦ play_other c.args.lines.now c.loop-i.i c.index-lines-i.result c.loop-i-test.true c.index-lines-i.is answers reports w.in-Some.command w.in-Some.is (no_node _ w.in_default-verb.not-Node) p | in_default w ↦ play_form c.args.lines.now c.loop-i.i c.index-lines-i.result c.loop-i-test.true c.index-lines-i.is answers reports w.in_default.is p ])

pub returns : goal.returns
returns c = c.loop-i.invariant _ _ (play_none c.args.lines.now c.loop-i.i _ _ c.loop-i-test.false)
