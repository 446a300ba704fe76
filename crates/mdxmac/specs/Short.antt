-- Algorithm 3 of ISO/IEC 9797-2:2011, for short strings, over any hash. Assumes nothing.
use Rattle.std.specs.Prelude.{◌≡◌, ℕ, ◌-◌, ◌*◌, ◌/◌, ◌≤◌, true, List, ◌∷◌, ◌++◌, length, replicate, refl}
use Rattle.std.proofs.Common.{arith}
use Rattle.hash.specs.Meaning.{Meaning, chained, code, high_first}
use Rattle.mac.specs.Face.{Face}
use Rattle.mac.specs.Plan.{Counts, Plan, face_of}
use Rattle.mdxmac.specs.Bytes.{both}
use Rattle.mdxmac.specs.Mdx.{K0, K1, K2, three_parts}

-- L: a length of n bytes in bits, as 16 bytes, high byte first
abbrev pub L : ℕ → List ℕ
L n = 0 ∷ 0 ∷ 0 ∷ 0 ∷ 0 ∷ 0 ∷ 0 ∷ 0 ∷ high_first (8 * n)

-- a message filled with zeros to 32 bytes
abbrev pub filled32 : List ℕ → List ℕ
filled32 message = message ++ replicate (32 - length message) 0

-- the one block: K2, the filled message, and L under K2
abbrev pub short_block : List ℕ → List ℕ → List ℕ
short_block k2 message = k2 ++ (filled32 message ++ both (L (length message)) k2)

pub none_held : (n : ℕ) → 0 ≤ n
none_held n = omega arith

pub short_fits : (n : ℕ) → n ≤ 32 → 0 ≡ n / 64
short_fits n le = omega arith

-- a message is held until it has ended, and then costs one round
abbrev pub one_round : Counts 32
one_round = record {
  held = λ n. 0;
  whole = λ n. 1;
  none = refl;
  rises = λ m n le. none_held 0;
  bounded = λ n. none_held 1;
  steady = short_fits;
}

module _ (m : Meaning) where
  abbrev pub short_code : List ℕ → List ℕ → List ℕ
  short_code key message = code m (chained m (K0 m key) (K1 m key) (short_block (K2 m key) message) 1)

  abbrev pub short_plan : Plan
  short_plan = record {
    keying = three_parts m;
    longest = 2 * m.words;
    most = 32;
    needs = true;
    counts = one_round;
    code = short_code;
  }

  abbrev pub short_face : Face
  short_face = face_of m short_plan
