use Rattle.std.proofs.Common.{ap}
use Rattle.std.specs.Option.{option_map}
use Rattle.scripts.specs.Calls.{is_call}
use Rattle.scripts.specs.Told.{told}
use Rattle.scripts.proofs.Calling.{call_pushed}
use Rattle.scripts.proofs.calls.add_call.Goals as goal

pub returns-in_ok-push : goal.returns-in_ok-push
returns-in_ok-push c =
    call_pushed _ _ c.call_of.result _ (told c.in-Some.command) c.in_ok-push.ensures.items (ap (option_map told) c.in-Some.is) (ap is_call c.in-Calling.is) c.call_of.ensures
