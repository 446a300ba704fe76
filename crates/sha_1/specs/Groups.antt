-- How the steps of SHA-1 follow one another on a window of its schedule, and how long its chain is. Assumes nothing.
use Rattle.std.specs.Prelude.{◌≡◌, ℕ, suc, ◌+◌, ◌<◌, ◌≤◌, List, length, take, slice_index, refl}
use Rattle.std.proofs.Common.{◌∙◌, sym, arith}
use Rattle.std.proofs.lemmas.List.{get_or-take}
use Rattle.hash.specs.declared.ByteOrder.TheVariants.{HighFirst}
use Rattle.hash.specs.Words.{words}
use Rattle.hash.specs.Rounds.{steps}
use Rattle.hash.specs.Windows.{renewed, Holds}
use Rattle.hash.proofs.Sums.{sums_length, plus_none}
use Rattle.hash.proofs.Window.{Near, sixteen_words, begins, moves}
use Rattle.sha_1.specs.Round.{later, schedule, mixed, one1, constants, keyed, round1}

-- the rule of the schedule looks at sixteen words
near : Near later
unfolding later
near f g t past h =
    let a = h 3 (omega arith) (omega arith) in
    let b = h 8 (omega arith) (omega arith) in
    let c = h 14 (omega arith) (omega arith) in
    let d = h 16 (omega arith) (omega arith) in
    cc

pub first : (block window : List ℕ) → window ≡ words HighFirst block 16 → Holds window (schedule block) 0
first block window = begins later near (words HighFirst block 16) (sixteen_words HighFirst block) 64 window

-- a word past the first sixteen takes its place in the window
pub next : (block window turn : List ℕ) (t : ℕ) → 16 ≤ t → t < 80 → Holds window (schedule block) t → turn ≡ renewed later window t → Holds turn (schedule block) (t + 1)
next block window turn t past fits = moves later near (words HighFirst block 16) (sixteen_words HighFirst block) 64 t window turn past (omega arith)

steps_length : (ks s ws : List ℕ) (n : ℕ) → length (steps (one1 ks) s ws (suc n)) ≡ 5
unfolding steps mixed
steps_length ks s ws n = refl

pub round_length : (c k b : List ℕ) → length c ≡ 5 → length (round1 c k b) ≡ 5
round_length c k b e = sums_length c (steps (one1 (keyed k)) c (schedule b) 80) (e ∙ sym (steps_length (keyed k) c (schedule b) 79)) ∙ e

-- the words past the fourth are not added
pub keyed_take : (k : List ℕ) → keyed (take 4 k) ≡ keyed k
keyed_take k = rw (get_or-take 4 k 0 0 (omega arith), get_or-take 4 k 1 0 (omega arith), get_or-take 4 k 2 0 (omega arith), get_or-take 4 k 3 0 (omega arith))

-- with zeros added, the constants are as they stand
pub keyed_none : (k : List ℕ) → ((i : ℕ) → slice_index k i ≡ 0) → constants ≡ keyed k
keyed_none k none =
    let a = plus_none 0x5a827999 0x5a827999 (slice_index k 0) refl (omega arith) (none 0) in
    let b = plus_none 0x6ed9eba1 0x6ed9eba1 (slice_index k 1) refl (omega arith) (none 1) in
    let c = plus_none 0x8f1bbcdc 0x8f1bbcdc (slice_index k 2) refl (omega arith) (none 2) in
    let d = plus_none 0xca62c1d6 0xca62c1d6 (slice_index k 3) refl (omega arith) (none 3) in
    cc
