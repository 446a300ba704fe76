use Rattle.std.proofs.Common.{ap, ◌∙◌, arith}
use Rattle.std.specs.Option.{option_map}
use Rattle.requests.specs.Read.{asked}
use Rattle.requests.proofs.Asking.{asked_five, asked_not, fields_short}
use Rattle.requests.proofs.form.request_of.Goals as goal

pub returns-in_err-fields_of : goal.returns-in_err-fields_of
returns-in_err-fields_of c = ap (option_map asked) c.from_residual.ensures ∙ asked_not c.args.line.now c.in_err-fields_of.ensures

pub request-requires : goal.request-requires
request-requires c =
    let short = fields_short c.args.line.now _ _ _ _ _ c.in_ok-fields_of.ensures in
    (omega (arith, short.0), omega (arith, short.1))

pub returns : goal.returns
returns c = c.request.ensures ∙ asked_five c.args.line.now _ _ _ _ _ c.in_ok-fields_of.ensures
