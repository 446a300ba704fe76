use Rattle.std.proofs.Common.{◌≡◌, ◌++◌, take, drop}
use Rattle.hmac.specs.Hmac.{xored}
use Rattle.hmac.proofs.xor_all.Given as goal

abbrev pub invariant-loop-x : goal.invariant-loop-x
invariant-loop-x l = l.block ≡ xored l.pad (take l.x-index l.initial.block) ++ drop l.x-index l.initial.block
