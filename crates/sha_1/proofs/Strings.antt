-- T0, T1 and T2 follow their rule: the definition, run on their blocks. Assumes nothing.
use Rattle.std.proofs.Common.{◌≡◌, ℕ, zero, suc, ◌<◌, List, [], ◌∷◌, get_or, sym, refl, ap, ◌∙◌, arith}
use Rattle.hash.specs.Words.{plus, negated, rotl, word, words}
use Rattle.hash.specs.Rounds.{ch, maj, extended, steps, sums}
use Rattle.sha_1.specs.Round.{later, mixed}
use Rattle.sha_1.specs.Means.{strings1, block_of_string, string_of}

rule : (i : ℕ) → strings1 i ≡ string_of (block_of_string i)
unfolding plus negated rotl word words ch maj extended steps sums later mixed
rule zero = refl
rule (suc zero) = refl
rule (suc (suc i)) = refl

pub ruled : (i : ℕ) (block : List ℕ) → block ≡ block_of_string i → strings1 i ≡ string_of block
ruled i block e = rule i ∙ ap string_of (sym e)

pub listed : (d : List ℕ) (i : ℕ) → i < 3 → get_or (block_of_string 0 ∷ block_of_string 1 ∷ block_of_string 2 ∷ []) i d ≡ block_of_string i
listed d zero h = refl
listed d (suc zero) h = refl
listed d (suc (suc zero)) h = refl
listed d (suc (suc (suc i))) h = absurd (omega arith)
