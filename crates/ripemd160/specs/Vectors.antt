-- What the definition gives where the answer is known from outside: the codes of some messages, as ISO/IEC 10118-3 has them, and
-- the rule of the strings T0, T1 and T2. Assumes nothing.
use Rattle.std.specs.Prelude.{ℕ, ◌+◌, List, [], ◌∷◌, codes, take}
use Rattle.hash.specs.Meaning.{hashed, code, chained, none}
use Rattle.ripemd160.specs.Means.{meaning160}

-- the last message fills two blocks
abbrev pub hashes160 : List (List ℕ)
hashes160 =
    hashed meaning160 (codes "") ∷
    hashed meaning160 (codes "a") ∷
    hashed meaning160 (codes "abc") ∷
    hashed meaning160 (codes "message digest") ∷
    hashed meaning160 (codes "abcdbcdecdefdefgefghfghighijhijkijkljklmklmnlmnomnopnopq") ∷ []

-- the 64 bytes of the digit i twice, and of the letters and digits
abbrev pub alphabet : ℕ → List ℕ
alphabet i = (48 + i) ∷ (48 + i) ∷ codes "abcdefghijklmnopqrstuvwxyzABCDEFGHIJKLMNOPQRSTUVWXYZ0123456789"

-- the first 16 bytes of their chain, with no padding
unfoldable pub ruled160 : ℕ → List ℕ
ruled160 i = take 16 (code meaning160 (chained meaning160 meaning160.first none (alphabet i) 1))
