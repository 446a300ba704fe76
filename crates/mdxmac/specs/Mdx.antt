-- MDx-MAC, algorithm 1 of ISO/IEC 9797-2:2011, over any hash. Assumes nothing.
use Rattle.std.specs.Prelude.{ℕ, ◌+◌, ◌-◌, ◌*◌, ◌/◌, ◌%◌, true, List, ◌++◌, length, take, replicate}
use Rattle.hash.specs.Meaning.{Meaning, chained, blocks, padded, code, none}
use Rattle.mac.specs.declared.Span.{Span}
use Rattle.mac.specs.Face.{Face}
use Rattle.mac.specs.Plan.{Keying, Plan, by_blocks, face_of}
use Rattle.mdxmac.specs.Bytes.{both, repeated}

-- K': the first 16 bytes of the key repeated
unfoldable pub K' : List ℕ → List ℕ
K' key = take 16 (repeated 16 key)

-- keys of 1 to 16 bytes
abbrev pub keys : Span
keys = record { least = 1; most = 16 }

module _ (m : Meaning) where
  -- h̄: whole blocks from the first chain, with no added words and no padding
  abbrev pub hbar : List ℕ → List ℕ
  hbar bytes = chained m m.first none bytes (length bytes / 64)

  -- T i, T (i + 1), T (i + 2), the numbers modulo 3
  abbrev pub three : ℕ → List ℕ
  three i = m.strings (i % 3) ++ (m.strings ((i + 1) % 3) ++ m.strings ((i + 2) % 3))

  -- U i: the three strings twice
  abbrev pub U : ℕ → List ℕ
  U i = three i ++ three i

  -- the chain of K', U i, K'
  unfoldable pub mixed : ℕ → List ℕ → List ℕ
  mixed i key = hbar (K' key ++ (U i ++ K' key))

  abbrev pub K0 : List ℕ → List ℕ
  K0 key = mixed 0 key

  -- the first a words, with zeros to eight words
  abbrev pub K1 : List ℕ → List ℕ
  K1 key = take m.added (mixed 1 key) ++ replicate (8 - m.added) 0

  -- the first 16 bytes
  abbrev pub K2 : List ℕ → List ℕ
  K2 key = take 16 (code m (mixed 2 key))

  -- the last block: K2, and each of the strings under K2
  abbrev pub last : List ℕ → List ℕ
  last k2 = k2 ++ (both (m.strings 0) k2 ++ (both (m.strings 1) k2 ++ both (m.strings 2) k2))

  -- from K0 and with the added words K1: the padded message, and then the last block
  abbrev pub mdx_code : List ℕ → List ℕ → List ℕ
  mdx_code key message = code m (chained m (chained m (K0 key) (K1 key) (padded m.order message) (blocks (length message))) (K1 key) (last (K2 key)) 1)

  -- K0 to start from, K1 to add, and K2
  abbrev pub three_parts : Keying
  three_parts = record { keys = keys; setup = 6; first = K0; second = K1; bytes = K2 }

  abbrev pub mdx_plan : Plan
  mdx_plan = record {
    keying = three_parts;
    longest = 4 * m.words;
    most = 1048576;
    needs = true;
    counts = by_blocks 1048576;
    code = mdx_code;
  }

  abbrev pub mdx_face : Face
  mdx_face = face_of m mdx_plan
