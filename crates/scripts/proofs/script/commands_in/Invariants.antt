use Rattle.std.proofs.Common.{◌≡◌, map, take, vec_items}
use Rattle.std.specs.Option.{option_map}
use Rattle.scripts.specs.Form.{said_by}
use Rattle.scripts.specs.Told.{told}
use Rattle.scripts.proofs.Fields.{texts_of}
use Rattle.scripts.proofs.script.commands_in.Given as goal

abbrev pub invariant-loop-line : goal.invariant-loop-line
invariant-loop-line l = map (option_map told) (vec_items l.commands) ≡ map said_by (texts_of (take l.line-index l.lines))
