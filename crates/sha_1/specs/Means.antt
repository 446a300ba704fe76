-- SHA-1 as a hash: five words, four added, high byte first. Assumes nothing.
use Rattle.std.specs.Prelude.{ℕ, zero, suc, List, [], ◌∷◌, take, codes}
use Rattle.hash.specs.Meaning.{Meaning, chained, code, none}
use Rattle.hash.specs.declared.ByteOrder.TheVariants.{HighFirst}
use Rattle.sha_1.specs.Round.{round1, first1}

-- T0, T1 and T2
abbrev pub strings1 : ℕ → List ℕ
strings1 zero = 0x1d ∷ 0x4c ∷ 0xa3 ∷ 0x9f ∷ 0xa4 ∷ 0x04 ∷ 0x17 ∷ 0xe2 ∷ 0xae ∷ 0x5a ∷ 0x77 ∷ 0xb4 ∷ 0x90 ∷ 0x67 ∷ 0xbb ∷ 0xcc ∷ []
strings1 (suc zero) = 0x93 ∷ 0x18 ∷ 0xaf ∷ 0xef ∷ 0x5d ∷ 0x5a ∷ 0x5b ∷ 0x46 ∷ 0xef ∷ 0xca ∷ 0x6b ∷ 0xec ∷ 0x0e ∷ 0x13 ∷ 0x89 ∷ 0x40 ∷ []
strings1 (suc (suc i)) = 0x45 ∷ 0x44 ∷ 0x20 ∷ 0x96 ∷ 0x56 ∷ 0xe1 ∷ 0x4f ∷ 0x97 ∷ 0x00 ∷ 0x5d ∷ 0xac ∷ 0x76 ∷ 0x86 ∷ 0x8e ∷ 0x97 ∷ 0xa3 ∷ []

abbrev pub meaning1 : Meaning
meaning1 = record { words = 5; added = 4; order = HighFirst; first = first1; strings = strings1; phi = round1 }

-- the block that T_i comes from: the digit of i twice, then the 62 letters and digits
abbrev pub block_of_string : ℕ → List ℕ
block_of_string zero = codes "00abcdefghijklmnopqrstuvwxyzABCDEFGHIJKLMNOPQRSTUVWXYZ0123456789"
block_of_string (suc zero) = codes "11abcdefghijklmnopqrstuvwxyzABCDEFGHIJKLMNOPQRSTUVWXYZ0123456789"
block_of_string (suc (suc i)) = codes "22abcdefghijklmnopqrstuvwxyzABCDEFGHIJKLMNOPQRSTUVWXYZ0123456789"

-- the first 16 bytes of the hash of a block, unpadded
abbrev pub string_of : List ℕ → List ℕ
string_of block = take 16 (code meaning1 (chained meaning1 first1 none block 1))
