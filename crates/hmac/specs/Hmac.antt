-- HMAC, algorithm 2 of ISO/IEC 9797-2:2011, over any hash. Assumes nothing.
use Rattle.std.specs.Prelude.{ℕ, ◌-◌, ◌*◌, false, List, ◌++◌, map, length, replicate, bit_xor}
use Rattle.hash.specs.Meaning.{Meaning, chained, hashed, none}
use Rattle.mac.specs.declared.Span.{Span}
use Rattle.mac.specs.Face.{Face}
use Rattle.mac.specs.Plan.{Keying, Plan, by_blocks, face_of}

-- each byte under a pad
abbrev pub xored : ℕ → List ℕ → List ℕ
xored pad xs = map (λ x. bit_xor x pad) xs

-- the key filled with zeros to a block
abbrev pub filled_key : List ℕ → List ℕ
filled_key key = key ++ replicate (64 - length key) 0

-- P and Q: under the bytes 36 and 5C
abbrev pub inner_key : List ℕ → List ℕ
inner_key key = xored 0x36 (filled_key key)

abbrev pub outer_key : List ℕ → List ℕ
outer_key key = xored 0x5c (filled_key key)

-- keys of 16 to 64 bytes
abbrev pub keys : Span
keys = record { least = 16; most = 64 }

module _ (m : Meaning) where
  -- hash (Q, hash (P, message))
  abbrev pub hmac_code : List ℕ → List ℕ → List ℕ
  hmac_code key message = hashed m (outer_key key ++ hashed m (inner_key key ++ message))

  -- the chain after one block
  abbrev pub after_block : List ℕ → List ℕ
  after_block block = chained m m.first none block 1

  -- the chains after the two padded keys
  abbrev pub two_chains : Keying
  two_chains = record {
    keys = keys;
    setup = 2;
    first = λ key. after_block (inner_key key);
    second = λ key. after_block (outer_key key);
    bytes = λ key. replicate 16 0;
  }

  abbrev pub hmac_plan : Plan
  hmac_plan = record {
    keying = two_chains;
    longest = 4 * m.words;
    most = 1048576;
    needs = false;
    counts = by_blocks 1048576;
    code = hmac_code;
  }

  abbrev pub hmac_face : Face
  hmac_face = face_of m hmac_plan
