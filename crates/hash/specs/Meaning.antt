-- What a hash is, as numbers and lists of numbers, and the messages that every hash chains alike. Assumes nothing.
use Rattle.std.specs.Prelude.{ℕ, zero, suc, ◌+◌, ◌-◌, ◌*◌, ◌/◌, ◌%◌, ◌^◌, List, [], ◌∷◌, ◌++◌, length, take, drop, replicate}
use Rattle.hash.specs.declared.ByteOrder.{ByteOrder}
use Rattle.hash.specs.declared.ByteOrder.TheVariants.{LowFirst, HighFirst}

pub record Meaning : Type 0 where
  -- w and a: how many words a chain has, and how many words are added to the step constants
  pub words : ℕ
  pub added : ℕ
  pub order : ByteOrder
  -- the first chain, with zeros to eight words
  pub first : List ℕ
  -- T0, T1 and T2, of 16 bytes each
  pub strings : ℕ → List ℕ
  -- the round: chain, added words, block
  pub phi : List ℕ → List ℕ → List ℕ → List ℕ

-- one round on the eight words that hold a chain: those past it stay
abbrev pub step : Meaning → List ℕ → List ℕ → List ℕ → List ℕ
step m chain added block = m.phi (take m.words chain) (take m.added added) block ++ drop m.words chain

-- the chain after n blocks of bytes
abbrev pub chained : Meaning → List ℕ → List ℕ → List ℕ → ℕ → List ℕ
chained m chain added bytes zero = chain
chained m chain added bytes (suc n) = step m (chained m chain added bytes n) added (take 64 (drop (64 * n) bytes))

-- q: how many blocks a padded message of n bytes fills
abbrev pub blocks : ℕ → ℕ
blocks n = (n + 8) / 64 + 1

-- a number as eight bytes, modulo 2 ^ 64
abbrev pub high_first : ℕ → List ℕ
high_first n = n / 2 ^ 56 % 256 ∷ n / 2 ^ 48 % 256 ∷ n / 2 ^ 40 % 256 ∷ n / 2 ^ 32 % 256 ∷ n / 2 ^ 24 % 256 ∷ n / 2 ^ 16 % 256 ∷ n / 2 ^ 8 % 256 ∷ n % 256 ∷ []

abbrev pub low_first : ℕ → List ℕ
low_first n = n % 256 ∷ n / 2 ^ 8 % 256 ∷ n / 2 ^ 16 % 256 ∷ n / 2 ^ 24 % 256 ∷ n / 2 ^ 32 % 256 ∷ n / 2 ^ 40 % 256 ∷ n / 2 ^ 48 % 256 ∷ n / 2 ^ 56 % 256 ∷ []

abbrev pub eight : ByteOrder → ℕ → List ℕ
eight LowFirst n = low_first n
eight HighFirst n = high_first n

-- what follows a message of n bytes: the byte 80, the fewest zero bytes, and its length in bits
abbrev pub padding : ByteOrder → ℕ → List ℕ
padding order n = 128 ∷ (replicate (64 * blocks n - n - 9) 0 ++ eight order (8 * n))

abbrev pub padded : ByteOrder → List ℕ → List ℕ
padded order bytes = bytes ++ padding order (length bytes)

-- the last bytes of a message of `total`, the first `at` of a block, with what follows the message
abbrev pub closing : ByteOrder → List ℕ → ℕ → ℕ → List ℕ
closing order block at total = take at block ++ padding order total

-- a word as four bytes
abbrev pub four : ByteOrder → ℕ → List ℕ
four LowFirst x = x % 256 ∷ x / 2 ^ 8 % 256 ∷ x / 2 ^ 16 % 256 ∷ x / 2 ^ 24 % 256 ∷ []
four HighFirst x = x / 2 ^ 24 % 256 ∷ x / 2 ^ 16 % 256 ∷ x / 2 ^ 8 % 256 ∷ x % 256 ∷ []

abbrev pub bytes_of : ByteOrder → List ℕ → List ℕ
bytes_of order [] = []
bytes_of order (x ∷ xs) = four order x ++ bytes_of order xs

-- the code of a chain: its words as bytes
abbrev pub code : Meaning → List ℕ → List ℕ
code m chain = bytes_of m.order (take m.words chain)

-- zero added words
abbrev pub none : List ℕ
none = replicate 8 0

-- the plain hash
abbrev pub hashed : Meaning → List ℕ → List ℕ
hashed m bytes = code m (chained m m.first none (padded m.order bytes) (blocks (length bytes)))
