use Rattle.std.proofs.Common.{◌≡◌, ◌++◌, drop, vec_items}
use Rattle.scripts.specs.Reply.{spaced}
use Rattle.scripts.proofs.reply.put_spaced.Given as goal

abbrev pub invariant-loop-n : goal.invariant-loop-n
invariant-loop-n l = vec_items l.out ++ spaced (drop l.n-index l.numbers) ≡ vec_items l.initial.out ++ spaced l.numbers
