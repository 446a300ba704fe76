-- SHA-256's round, as FIPS 180-4 has it, on words of 32 bits. Assumes nothing.
use Rattle.std.specs.Prelude.{ℕ, ◌-◌, ◌*◌, ◌/◌, ◌%◌, ◌^◌, List, [], ◌∷◌, bit_or, bit_xor, slice_index}
use Rattle.hash.specs.declared.ByteOrder.TheVariants.{HighFirst}
use Rattle.hash.specs.Words.{plus, words}
use Rattle.hash.specs.Rounds.{ch, maj, extended, steps, sums}

-- a rotation to the right by k places
abbrev pub rotr : ℕ → ℕ → ℕ
rotr k x = bit_or (x / 2 ^ (k % 32)) ((x * 2 ^ ((32 - k % 32) % 32)) % 2 ^ 32)

-- a shift to the right by k places
abbrev pub shr : ℕ → ℕ → ℕ
shr k x = x / 2 ^ k

abbrev pub Sigma0 : ℕ → ℕ
Sigma0 x = bit_xor (bit_xor (rotr 2 x) (rotr 13 x)) (rotr 22 x)

abbrev pub Sigma1 : ℕ → ℕ
Sigma1 x = bit_xor (bit_xor (rotr 6 x) (rotr 11 x)) (rotr 25 x)

abbrev pub sigma0 : ℕ → ℕ
sigma0 x = bit_xor (bit_xor (rotr 7 x) (rotr 18 x)) (shr 3 x)

abbrev pub sigma1 : ℕ → ℕ
sigma1 x = bit_xor (bit_xor (rotr 17 x) (rotr 19 x)) (shr 10 x)

-- word t of the schedule past the first sixteen
unfoldable pub later : (ℕ → ℕ) → ℕ → ℕ
later word t = plus (plus (plus (sigma1 (word (t - 2))) (word (t - 7))) (sigma0 (word (t - 15)))) (word (t - 16))

-- the 64 words of the schedule of a block
abbrev pub schedule : List ℕ → List ℕ
schedule block = extended later (words HighFirst block 16) 48

abbrev pub constants : List ℕ
constants =
    0x428a2f98 ∷ 0x71374491 ∷ 0xb5c0fbcf ∷ 0xe9b5dba5 ∷ 0x3956c25b ∷ 0x59f111f1 ∷ 0x923f82a4 ∷ 0xab1c5ed5 ∷
    0xd807aa98 ∷ 0x12835b01 ∷ 0x243185be ∷ 0x550c7dc3 ∷ 0x72be5d74 ∷ 0x80deb1fe ∷ 0x9bdc06a7 ∷ 0xc19bf174 ∷
    0xe49b69c1 ∷ 0xefbe4786 ∷ 0x0fc19dc6 ∷ 0x240ca1cc ∷ 0x2de92c6f ∷ 0x4a7484aa ∷ 0x5cb0a9dc ∷ 0x76f988da ∷
    0x983e5152 ∷ 0xa831c66d ∷ 0xb00327c8 ∷ 0xbf597fc7 ∷ 0xc6e00bf3 ∷ 0xd5a79147 ∷ 0x06ca6351 ∷ 0x14292967 ∷
    0x27b70a85 ∷ 0x2e1b2138 ∷ 0x4d2c6dfc ∷ 0x53380d13 ∷ 0x650a7354 ∷ 0x766a0abb ∷ 0x81c2c92e ∷ 0x92722c85 ∷
    0xa2bfe8a1 ∷ 0xa81a664b ∷ 0xc24b8b70 ∷ 0xc76c51a3 ∷ 0xd192e819 ∷ 0xd6990624 ∷ 0xf40e3585 ∷ 0x106aa070 ∷
    0x19a4c116 ∷ 0x1e376c08 ∷ 0x2748774c ∷ 0x34b0bcb5 ∷ 0x391c0cb3 ∷ 0x4ed8aa4a ∷ 0x5b9cca4f ∷ 0x682e6ff3 ∷
    0x748f82ee ∷ 0x78a5636f ∷ 0x84c87814 ∷ 0x8cc70208 ∷ 0x90befffa ∷ 0xa4506ceb ∷ 0xbef9a3f7 ∷ 0xc67178f2 ∷ []

-- K of step t
unfoldable pub constant : ℕ → ℕ
constant t = slice_index constants t

-- the two sums of a step
abbrev pub T1 : ℕ → ℕ → ℕ → ℕ → ℕ → ℕ → ℕ
T1 e f g h k w = plus (plus (plus (plus h (Sigma1 e)) (ch e f g)) k) w

abbrev pub T2 : ℕ → ℕ → ℕ → ℕ
T2 a b c = plus (Sigma0 a) (maj a b c)

-- one step on the eight words a to h, with the constant k and the word w
unfoldable pub mixed : List ℕ → ℕ → ℕ → List ℕ
mixed s k w =
    let a = slice_index s 0 in
    let b = slice_index s 1 in
    let c = slice_index s 2 in
    let d = slice_index s 3 in
    let e = slice_index s 4 in
    let f = slice_index s 5 in
    let g = slice_index s 6 in
    let h = slice_index s 7 in
    plus (T1 e f g h k w) (T2 a b c) ∷ a ∷ b ∷ c ∷ plus d (T1 e f g h k w) ∷ e ∷ f ∷ g ∷ []

-- step t with its word w
abbrev pub one256 : List ℕ → ℕ → ℕ → List ℕ
one256 s t w = mixed s (constant t) w

-- the round, which takes no added words
abbrev pub round256 : List ℕ → List ℕ → List ℕ → List ℕ
round256 chain added block = sums chain (steps one256 chain (schedule block) 64)

abbrev pub first256 : List ℕ
first256 = 0x6a09e667 ∷ 0xbb67ae85 ∷ 0x3c6ef372 ∷ 0xa54ff53a ∷ 0x510e527f ∷ 0x9b05688c ∷ 0x1f83d9ab ∷ 0x5be0cd19 ∷ []
