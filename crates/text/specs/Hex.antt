-- Bytes as upper-case hexadecimal pairs. Assumes nothing.
use Rattle.std.specs.Prelude.{ℕ, ◌+◌, ◌-◌, ◌*◌, ◌/◌, ◌%◌, cond, List, [], ◌∷◌, Some, None, Option, ◌==◌, nat_lt}
use Rattle.std.specs.List.{flat_map}
use Rattle.std.specs.Option.{option_map, option_and_then}
use Rattle.text.specs.Decimal.{within}

-- `0` to `9` and `A` to `F`
abbrev pub hex_value_of : ℕ → Option ℕ
hex_value_of c = cond (within 48 57 c) (Some (c - 48)) (cond (within 65 70 c) (Some (c - 55)) None)

-- the byte that two digits write
abbrev pub pair_of : ℕ → ℕ → Option ℕ
pair_of high low = option_and_then (λ h. option_map (λ l. h * 16 + l) (hex_value_of low)) (hex_value_of high)

-- one byte, before the bytes that follow
abbrev pub with : Option ℕ → Option (List ℕ) → Option (List ℕ)
with first rest = option_and_then (λ b. option_map (λ bs. b ∷ bs) rest) first

abbrev pub pairs_of : List ℕ → Option (List ℕ)
pairs_of [] = Some []
pairs_of (a ∷ []) = None
pairs_of (a ∷ b ∷ rest) = with (pair_of a b) (pairs_of rest)

-- hexadecimal pairs, or `-` for no byte
abbrev pub bytes_of : List ℕ → Option (List ℕ)
bytes_of [] = None
bytes_of (a ∷ []) = cond (a == 45) (Some []) None
bytes_of (a ∷ b ∷ rest) = pairs_of (a ∷ b ∷ rest)

abbrev pub hex_digit_of : ℕ → ℕ
hex_digit_of d = cond (nat_lt d 10) (48 + d) (55 + d)

-- two digits for each byte
abbrev pub hex_of : List ℕ → List ℕ
hex_of bytes = flat_map (λ b. hex_digit_of (b / 16) ∷ hex_digit_of (b % 16) ∷ []) bytes
