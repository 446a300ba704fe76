use Rattle.std.proofs.Common.{refl}
use Rattle.hash.specs.Words.{plus, negated, word, words}
use Rattle.hash.specs.Rounds.{ch, maj, extended, steps, sums}
use Rattle.sha256.specs.Round.{later, constant, mixed}
use Rattle.sha256.proofs.vectors.known.Goals as goal

pub returns : goal.returns
unfolding plus negated word words ch maj extended steps sums later constant mixed
returns c = refl
