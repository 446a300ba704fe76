-- Decimal numbers. Assumes nothing.
use Rattle.std.specs.Prelude.{ℕ, ◌+◌, ◌-◌, ◌*◌, Bool, cond, ◌&&◌, List, [], ◌∷◌, length, Some, None, Option, nat_le}

-- from low to high
abbrev pub within : ℕ → ℕ → ℕ → Bool
within low high b = nat_le low b && nat_le b high

-- decimal digits, after the number that was read so far
abbrev pub digits_on : ℕ → List ℕ → Option ℕ
digits_on n [] = Some n
digits_on n (c ∷ cs) = cond (within 48 57 c) (digits_on (n * 10 + (c - 48)) cs) None

-- one digit to ten
abbrev pub number_of : List ℕ → Option ℕ
number_of text = cond (within 1 10 (length text)) (digits_on 0 text) None
