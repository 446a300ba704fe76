-- What the rounds of the SHA family share: two functions of words, a schedule in which each word past the first sixteen
-- comes from the sixteen before it, steps that each take one of its words, and the closing sum. Assumes nothing.
use Rattle.std.specs.Prelude.{ℕ, zero, suc, ◌+◌, List, [], ◌∷◌, ◌++◌, take, drop, bit_and, bit_xor, slice_index}
use Rattle.hash.specs.Words.{plus, negated}

-- y where a bit of x is 1, z where it is 0
unfoldable pub ch : ℕ → ℕ → ℕ → ℕ
ch x y z = bit_xor (bit_and x y) (bit_and (negated x) z)

-- what most of the three have
unfoldable pub maj : ℕ → ℕ → ℕ → ℕ
maj x y z = bit_xor (bit_xor (bit_and x y) (bit_and x z)) (bit_and y z)

-- the sixteen words ws and n more: `later word t` is word t, made from those before it
unfoldable pub extended : ((ℕ → ℕ) → ℕ → ℕ) → List ℕ → ℕ → List ℕ
extended later ws zero = ws
extended later ws (suc n) = let before = extended later ws n in before ++ later (λ m. slice_index before m) (16 + n) ∷ []

-- n steps on the words s: `one s t w` is step t with the word w of the schedule ws
unfoldable pub steps : (List ℕ → ℕ → ℕ → List ℕ) → List ℕ → List ℕ → ℕ → List ℕ
steps one s ws zero = s
steps one s ws (suc t) = one (steps one s ws t) t (slice_index ws t)

-- the sums of two chains, word by word
unfoldable pub sums : List ℕ → List ℕ → List ℕ
sums [] ys = []
sums (x ∷ xs) [] = []
sums (x ∷ xs) (y ∷ ys) = plus x y ∷ sums xs ys

-- a chain whose first n words have those of another added to them
abbrev pub added : List ℕ → List ℕ → ℕ → List ℕ
added chain more n = sums (take n chain) more ++ drop n chain
