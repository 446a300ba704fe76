-- How the steps of SHA-256 follow one another on a window of its schedule, and how long its chain is. Assumes nothing.
use Rattle.std.specs.Prelude.{◌≡◌, ℕ, suc, ◌+◌, ◌<◌, ◌≤◌, List, length, refl}
use Rattle.std.proofs.Common.{◌∙◌, sym, arith}
use Rattle.hash.specs.declared.ByteOrder.TheVariants.{HighFirst}
use Rattle.hash.specs.Words.{words}
use Rattle.hash.specs.Rounds.{steps}
use Rattle.hash.specs.Windows.{renewed, Holds}
use Rattle.hash.proofs.Sums.{sums_length}
use Rattle.hash.proofs.Window.{Near, sixteen_words, begins, moves}
use Rattle.sha256.specs.Round.{later, schedule, mixed, one256, round256}

-- the rule of the schedule looks at sixteen words
near : Near later
unfolding later
near f g t past h =
    let a = h 2 (omega arith) (omega arith) in
    let b = h 7 (omega arith) (omega arith) in
    let c = h 15 (omega arith) (omega arith) in
    let d = h 16 (omega arith) (omega arith) in
    cc

pub first : (block window : List ℕ) → window ≡ words HighFirst block 16 → Holds window (schedule block) 0
first block window = begins later near (words HighFirst block 16) (sixteen_words HighFirst block) 48 window

-- a word past the first sixteen takes its place in the window
pub next : (block window turn : List ℕ) (t : ℕ) → 16 ≤ t → t < 64 → Holds window (schedule block) t → turn ≡ renewed later window t → Holds turn (schedule block) (t + 1)
next block window turn t past fits = moves later near (words HighFirst block 16) (sixteen_words HighFirst block) 48 t window turn past (omega arith)

steps_length : (s ws : List ℕ) (n : ℕ) → length (steps one256 s ws (suc n)) ≡ 8
unfolding steps mixed
steps_length s ws n = refl

pub round_length : (c k b : List ℕ) → length c ≡ 8 → length (round256 c k b) ≡ 8
round_length c k b e = sums_length c (steps one256 c (schedule b) 64) (e ∙ sym (steps_length c (schedule b) 63)) ∙ e
