-- SHA-1's round, as FIPS 180-4 has it, on words of 32 bits, with a word added to each step constant. Assumes nothing.
use Rattle.std.specs.Prelude.{ℕ, zero, suc, ◌-◌, ◌/◌, List, [], ◌∷◌, bit_xor, slice_index}
use Rattle.hash.specs.declared.ByteOrder.TheVariants.{HighFirst}
use Rattle.hash.specs.Words.{plus, rotl, words}
use Rattle.hash.specs.Rounds.{ch, maj, extended, steps, sums}

abbrev pub parity : ℕ → ℕ → ℕ → ℕ
parity x y z = bit_xor (bit_xor x y) z

-- f of the steps of a quarter: 0 to 19, 20 to 39, 40 to 59, 60 to 79
abbrev pub logical : ℕ → ℕ → ℕ → ℕ → ℕ
logical zero x y z = ch x y z
logical (suc zero) x y z = parity x y z
logical (suc (suc zero)) x y z = maj x y z
logical (suc (suc (suc q))) x y z = parity x y z

-- K of the steps of a quarter
abbrev pub constants : List ℕ
constants = 0x5a827999 ∷ 0x6ed9eba1 ∷ 0x8f1bbcdc ∷ 0xca62c1d6 ∷ []

-- the four constants, with the added words k on them
abbrev pub keyed : List ℕ → List ℕ
keyed k = plus (slice_index constants 0) (slice_index k 0) ∷ plus (slice_index constants 1) (slice_index k 1) ∷ plus (slice_index constants 2) (slice_index k 2) ∷ plus (slice_index constants 3) (slice_index k 3) ∷ []

-- word t of the schedule past the first sixteen
unfoldable pub later : (ℕ → ℕ) → ℕ → ℕ
later word t = rotl 1 (bit_xor (bit_xor (bit_xor (word (t - 3)) (word (t - 8))) (word (t - 14))) (word (t - 16)))

-- the 80 words of the schedule of a block
abbrev pub schedule : List ℕ → List ℕ
schedule block = extended later (words HighFirst block 16) 64

-- a step on the five words a to e in the quarter q, with the constant k and the word w
unfoldable pub mixed : List ℕ → ℕ → ℕ → ℕ → List ℕ
mixed s q k w =
    let a = slice_index s 0 in
    let b = slice_index s 1 in
    let c = slice_index s 2 in
    let d = slice_index s 3 in
    let e = slice_index s 4 in
    plus (plus (plus (plus (rotl 5 a) (logical q b c d)) e) k) w ∷ a ∷ rotl 30 b ∷ c ∷ d ∷ []

-- step t with its word w, where ks are the four constants
abbrev pub one1 : List ℕ → List ℕ → ℕ → ℕ → List ℕ
one1 ks s t w = mixed s (t / 20) (slice_index ks (t / 20)) w

abbrev pub round1 : List ℕ → List ℕ → List ℕ → List ℕ
round1 chain added block = sums chain (steps (one1 (keyed added)) chain (schedule block) 80)

abbrev pub first1 : List ℕ
first1 = 0x67452301 ∷ 0xefcdab89 ∷ 0x98badcfe ∷ 0x10325476 ∷ 0xc3d2e1f0 ∷ 0 ∷ 0 ∷ 0 ∷ []
