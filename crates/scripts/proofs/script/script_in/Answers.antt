use Rattle.std.proofs.Common.{map, ap, ◌∙◌}
use Rattle.std.proofs.lemmas.Result.{IfOk-weaker}
use Rattle.scripts.specs.Form.{said_by}
use Rattle.scripts.proofs.Fields.{texts_of}
use Rattle.scripts.proofs.script.script_in.Goals as goal

pub returns : goal.returns
returns c =
    IfOk-weaker c.commands_in.result _ _ (λ v e. e ∙ ap (map said_by) (ap texts_of c.deref.ensures.value ∙ c.in_ok-lines.ensures)) c.commands_in.ensures
