-- Words of 32 bits, as rounds work on them, and the words of a block. Assumes nothing.
use Rattle.std.specs.Prelude.{ℕ, zero, suc, ◌+◌, ◌-◌, ◌*◌, ◌/◌, ◌%◌, ◌^◌, Bool, ◌&&◌, List, [], ◌∷◌, ◌++◌, ◌==◌, bit_or, slice_index}
use Rattle.hash.specs.declared.ByteOrder.{ByteOrder}
use Rattle.hash.specs.declared.ByteOrder.TheVariants.{LowFirst, HighFirst}

-- a sum modulo 2 ^ 32
unfoldable pub plus : ℕ → ℕ → ℕ
plus x y = (x + y) % 2 ^ 32

-- every bit turned
unfoldable pub negated : ℕ → ℕ
negated x = 2 ^ 32 - 1 - x

-- a rotation to the left by k places
unfoldable pub rotl : ℕ → ℕ → ℕ
rotl k x = bit_or ((x * 2 ^ (k % 32)) % 2 ^ 32) (x / 2 ^ ((32 - k % 32) % 32))

-- four bytes as a word
abbrev pub word_of : ByteOrder → ℕ → ℕ → ℕ → ℕ → ℕ
word_of LowFirst b0 b1 b2 b3 = b0 + b1 * 256 + b2 * 65536 + b3 * 16777216
word_of HighFirst b0 b1 b2 b3 = b0 * 16777216 + b1 * 65536 + b2 * 256 + b3

-- word t of a block
unfoldable pub word : ByteOrder → List ℕ → ℕ → ℕ
word order block t = word_of order (slice_index block (4 * t)) (slice_index block (4 * t + 1)) (slice_index block (4 * t + 2)) (slice_index block (4 * t + 3))

-- the first n words of a block
unfoldable pub words : ByteOrder → List ℕ → ℕ → List ℕ
words order block zero = []
words order block (suc n) = words order block n ++ word order block n ∷ []

-- is no word added? the first four are zeros
abbrev pub blank : List ℕ → Bool
blank added = slice_index added 0 == 0 && slice_index added 1 == 0 && slice_index added 2 == 0 && slice_index added 3 == 0
