-- The round of RIPEMD-160, as ISO/IEC 10118-3 has it: two lines of eighty steps on the same block, joined with the old chain.
-- Words of MDx-MAC may be added to the constants of the steps; the plain hash adds zeros. Assumes nothing.
use Rattle.std.specs.Prelude.{ℕ, zero, suc, ◌+◌, ◌%◌, List, [], ◌∷◌, bit_and, bit_or, bit_xor, slice_index, slice_index_or}
use Rattle.hash.specs.Words.{plus, negated, rotl, words}
use Rattle.hash.specs.declared.ByteOrder.TheVariants.{LowFirst}
use Rattle.ripemd160.specs.Orders.{order_left, order_right, shift_left, shift_right, at}
use Rattle.ripemd160.specs.declared.mixer.Mixer.{Mixer}
use Rattle.ripemd160.specs.declared.mixer.Mixer.TheVariants.{Parity, Choose, Either, Select, Last}

-- the five functions
abbrev pub mix : Mixer → ℕ → ℕ → ℕ → ℕ
mix Parity x y z = bit_xor (bit_xor x y) z
mix Choose x y z = bit_or (bit_and x y) (bit_and (negated x) z)
mix Either x y z = bit_xor (bit_or x (negated y)) z
mix Select x y z = bit_or (bit_and x z) (bit_and y (negated z))
mix Last x y z = bit_xor x (bit_or y (negated z))

-- what a line has of its own: for each step of its five rows the word of the block and the rotation, and for each row the
-- function and the constant
pub record Tables : Type 0 where
  pub order : List (List ℕ)
  pub shift : List (List ℕ)
  pub mixers : List Mixer
  pub constants : List ℕ
  -- the added word of row 0: each later row has the next of four
  pub first_added : ℕ

-- what each line has of its own. Its added words are k0, k1, k2, k3, k0 in the left line, and k1, k2, k3, k0, k1 in the right one
abbrev pub left : Tables
left = record {
  order = order_left;
  shift = shift_left;
  mixers = Parity ∷ Choose ∷ Either ∷ Select ∷ Last ∷ [];
  constants = 0 ∷ 0x5a827999 ∷ 0x6ed9eba1 ∷ 0x8f1bbcdc ∷ 0xa953fd4e ∷ [];
  first_added = 0;
}

abbrev pub right : Tables
right = record {
  order = order_right;
  shift = shift_right;
  mixers = Last ∷ Select ∷ Either ∷ Choose ∷ Parity ∷ [];
  constants = 0x50a28be6 ∷ 0x5c4dd124 ∷ 0x6d703ef3 ∷ 0x7a6d76e9 ∷ 0 ∷ [];
  first_added = 1;
}

-- the constant of row r with its added word
abbrev pub key : Tables → List ℕ → ℕ → ℕ
key line added r = plus (slice_index line.constants r) (slice_index added ((line.first_added + r) % 4))

-- one step on five words: its function, its word of the block, its constant and its rotation
abbrev pub stepped : List ℕ → Mixer → ℕ → ℕ → ℕ → List ℕ
stepped s j x k n =
    slice_index s 4 ∷
    plus (rotl n (plus (plus (plus (slice_index s 0) (mix j (slice_index s 1) (slice_index s 2) (slice_index s 3))) x) k)) (slice_index s 4) ∷
    slice_index s 1 ∷ rotl 10 (slice_index s 2) ∷ slice_index s 3 ∷ []

-- step i of row r, with the constant k, on the words xs of a block
abbrev pub turned : Tables → ℕ → ℕ → List ℕ → List ℕ → ℕ → List ℕ
turned line r k xs s i = stepped s (slice_index_or line.mixers r Parity) (slice_index xs (at line.order r i)) k (at line.shift r i)

-- n steps of row r, from step `from` on
unfoldable pub steps : Tables → ℕ → ℕ → List ℕ → List ℕ → ℕ → ℕ → List ℕ
steps line r k xs s from zero = s
steps line r k xs s from (suc n) = turned line r k xs (steps line r k xs s from n) (from + n)

-- row r: its sixteen steps
unfoldable pub row : Tables → List ℕ → List ℕ → List ℕ → ℕ → List ℕ
row line added xs s r = steps line r (key line added r) xs s 0 16

-- the first n rows of a line
abbrev pub rows : Tables → List ℕ → List ℕ → List ℕ → ℕ → List ℕ
rows line added xs s zero = s
rows line added xs s (suc n) = row line added xs (rows line added xs s n) n

-- the chain h with the ends of the two lines
abbrev pub joined : List ℕ → List ℕ → List ℕ → List ℕ
joined h l r =
    plus (plus (slice_index h 1) (slice_index l 2)) (slice_index r 3) ∷
    plus (plus (slice_index h 2) (slice_index l 3)) (slice_index r 4) ∷
    plus (plus (slice_index h 3) (slice_index l 4)) (slice_index r 0) ∷
    plus (plus (slice_index h 4) (slice_index l 0)) (slice_index r 1) ∷
    plus (plus (slice_index h 0) (slice_index l 1)) (slice_index r 2) ∷ []

-- both lines, of five rows each, from the same chain
abbrev pub round160 : List ℕ → List ℕ → List ℕ → List ℕ
round160 chain added block =
    joined chain (rows left added (words LowFirst block 16) chain 5) (rows right added (words LowFirst block 16) chain 5)
