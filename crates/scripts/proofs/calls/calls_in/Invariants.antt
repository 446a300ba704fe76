use Rattle.std.proofs.Common.{◌≡◌, map, take, vec_items}
use Rattle.std.specs.Option.{option_map}
use Rattle.scripts.specs.Calls.{spelled, calls_asked}
use Rattle.scripts.specs.Told.{told}
use Rattle.scripts.proofs.calls.calls_in.Given as goal

abbrev pub invariant-loop-line : goal.invariant-loop-line
invariant-loop-line l = map spelled (vec_items l.calls) ≡ calls_asked (map (option_map told) (take l.line-index l.lines))
