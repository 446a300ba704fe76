use Rattle.std.proofs.Common.{refl}
use Rattle.hash.specs.Words.{plus, negated, rotl, word, words}
use Rattle.hash.specs.Rounds.{ch, maj, extended, steps, sums}
use Rattle.sha_1.specs.Round.{later, mixed}
use Rattle.sha_1.proofs.vectors.known.Goals as goal

pub returns : goal.returns
unfolding plus negated rotl word words ch maj extended steps sums later mixed
returns c = refl
