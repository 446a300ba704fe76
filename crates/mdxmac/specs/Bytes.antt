-- Bytes written over others, and bytes under bytes. Assumes nothing.
use Rattle.std.specs.Prelude.{ℕ, zero, suc, ◌+◌, List, [], ◌∷◌, ◌++◌, length, take, drop, bit_xor}

-- bytes written over others, from a place on
abbrev pub put : ℕ → List ℕ → List ℕ → List ℕ
put at xs b = take at b ++ (xs ++ drop (at + length xs) b)

-- exclusive or, byte by byte
abbrev pub both : List ℕ → List ℕ → List ℕ
both [] ys = []
both (x ∷ xs) [] = []
both (x ∷ xs) (y ∷ ys) = bit_xor x y ∷ both xs ys

abbrev pub repeated : ℕ → List ℕ → List ℕ
repeated zero xs = []
repeated (suc n) xs = xs ++ repeated n xs
