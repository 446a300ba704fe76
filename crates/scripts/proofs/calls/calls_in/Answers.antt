use Rattle.std.proofs.Common.{map, ap, ◌∙◌}
use Rattle.std.specs.Option.{option_map}
use Rattle.std.proofs.lemmas.List.{take_all}
use Rattle.scripts.specs.Calls.{spelled, calls_asked}
use Rattle.scripts.specs.Told.{told}
use Rattle.scripts.proofs.Calling.{calls_more}
use Rattle.scripts.proofs.calls.calls_in.Goals as goal

pub loop-line-init : goal.loop-line-init
loop-line-init c = ap (map spelled) c.new-calls.ensures.items

pub loop-line-preserved : goal.loop-line-preserved
loop-line-preserved c =
    calls_more c.args.lines.now c.loop-line.line-index c.line-item.result _ _ c.loop-line-test.true c.line-item.is c.in_ok-add_call.ensures c.loop-line.invariant

pub returns : goal.returns
returns c = c.loop-line.invariant ∙ ap (λ l. calls_asked (map (option_map told) l)) (take_all c.loop-line.line-index c.args.lines.now c.loop-line-test.false)
