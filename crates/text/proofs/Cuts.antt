-- The pieces of a text, by the place of the first byte that parts them. Assumes nothing.
use Rattle.std.proofs.Common.{◌≡◌, ℕ, ◌+◌, ◌-◌, ◌<◌, ◌≤◌, List, [], ◌∷◌, length, take, drop, Some, None, ◌==◌, position, arith}
use Rattle.std.specs.List.{position_or_len}
use Rattle.std.proofs.lemmas.Grind.{common_steps}
use Rattle.std.proofs.lemmas.List.Splits.{slice_split_first, slice_split_none}
use Rattle.std.proofs.lemmas.List.Sums.{fails_before_first}
use Rattle.text.specs.Pieces.{pieces}

-- as a slice is cut at n
pub pieces_cut : (c : ℕ) (text : List ℕ) (n : ℕ) → position (λ b. b == c) text ≡ Some n → pieces c text ≡ take n text ∷ pieces c (take (length text - (n + 1)) (drop (n + 1) text))
pieces_cut c text n e =
    let at : position_or_len (λ b. b == c) text ≡ n = grind (arith, common_steps) in
    let inside : n < length text = grind (arith, common_steps) in
    grind (arith, common_steps, slice_split_first (λ b. b == c) text 0 (omega arith))

pub pieces_none : (c : ℕ) (text : List ℕ) → position (λ b. b == c) text ≡ None → pieces c text ≡ text ∷ []
pieces_none c text e =
    let outside : length text ≤ position_or_len (λ b. b == c) text = grind (arith, common_steps) in
    slice_split_none (λ b. b == c) text (λ k d lt. fails_before_first (λ b. b == c) text k d (omega arith))
