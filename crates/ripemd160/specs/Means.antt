-- RIPEMD-160 as a hash: its numbers, its first chain and its strings for MDx-MAC. Assumes nothing.
use Rattle.std.specs.Prelude.{ℕ, zero, suc, List, [], ◌∷◌}
use Rattle.hash.specs.Meaning.{Meaning}
use Rattle.hash.specs.declared.ByteOrder.TheVariants.{LowFirst}
use Rattle.ripemd160.specs.Round.{round160}

-- T0, T1 and T2. Ti is the first 16 bytes of the chain after one round, with no padding, on the 64 bytes of the digit i twice,
-- as "00", and then abc..zABC..Z0123456789.
abbrev pub strings160 : ℕ → List ℕ
strings160 zero = 0x1c ∷ 0xc7 ∷ 0x08 ∷ 0x6a ∷ 0x04 ∷ 0x6a ∷ 0xfa ∷ 0x22 ∷ 0x35 ∷ 0x3a ∷ 0xe8 ∷ 0x8f ∷ 0x3d ∷ 0x3d ∷ 0xac ∷ 0xeb ∷ []
strings160 (suc zero) = 0xe3 ∷ 0xfa ∷ 0x02 ∷ 0x71 ∷ 0x0e ∷ 0x49 ∷ 0x1d ∷ 0x85 ∷ 0x11 ∷ 0x51 ∷ 0xcc ∷ 0x34 ∷ 0xe4 ∷ 0x71 ∷ 0x8d ∷ 0x41 ∷ []
strings160 (suc (suc n)) = 0x93 ∷ 0x98 ∷ 0x75 ∷ 0x57 ∷ 0xc0 ∷ 0x7b ∷ 0x81 ∷ 0x02 ∷ 0xba ∷ 0x59 ∷ 0x29 ∷ 0x49 ∷ 0xeb ∷ 0x63 ∷ 0x8f ∷ 0x37 ∷ []

abbrev pub meaning160 : Meaning
meaning160 = record {
  words = 5;
  added = 4;
  order = LowFirst;
  first = 0x67452301 ∷ 0xefcdab89 ∷ 0x98badcfe ∷ 0x10325476 ∷ 0xc3d2e1f0 ∷ 0 ∷ 0 ∷ 0 ∷ [];
  strings = strings160;
  phi = round160;
}
