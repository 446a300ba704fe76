use Rattle.std.proofs.Common.{map, ap, ◌∙◌}
use Rattle.std.specs.Option.{option_map}
use Rattle.std.proofs.lemmas.List.{take_all}
use Rattle.scripts.specs.Form.{said_by}
use Rattle.scripts.specs.Told.{told}
use Rattle.scripts.proofs.Fields.{texts_of}
use Rattle.scripts.proofs.Lines.{commands_more}
use Rattle.scripts.proofs.script.commands_in.Goals as goal

pub loop-line-init : goal.loop-line-init
loop-line-init c = ap (map (option_map told)) c.new-commands.ensures.items

pub loop-line-preserved : goal.loop-line-preserved
loop-line-preserved c = commands_more c.args.lines.now c.loop-line.line-index _ _ _ _ c.loop-line-test.true c.in_ok-push.ensures.items c.in_ok-command_or_none.ensures c.loop-line.invariant

pub returns : goal.returns
returns c = c.loop-line.invariant ∙ ap (λ l. map said_by (texts_of l)) (take_all c.loop-line.line-index c.args.lines.now c.loop-line-test.false)
