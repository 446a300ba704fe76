-- The lines of an input, and all the replies to it. Assumes nothing.
use Rattle.std.specs.Prelude.{ℕ, List, [], ◌∷◌, ◌++◌}
use Rattle.std.specs.List.{flat_map}
use Rattle.text.specs.Pieces.{pieces}
use Rattle.requests.specs.Reply.{reply}

-- every piece but the last
abbrev pub fronts : List (List ℕ) → List (List ℕ)
fronts [] = []
fronts (p ∷ []) = []
fronts (p ∷ q ∷ ps) = p ∷ fronts (q ∷ ps)

-- the last piece
abbrev pub final : List (List ℕ) → List ℕ
final [] = []
final (p ∷ []) = p
final (p ∷ q ∷ ps) = final (q ∷ ps)

-- the lines that a newline ends
abbrev pub ended : List ℕ → List (List ℕ)
ended input = fronts (pieces 10 input)

-- what follows the last newline
abbrev pub unended : List ℕ → List ℕ
unended input = final (pieces 10 input)

-- the replies to the lines that have ended
abbrev pub replies : List ℕ → List ℕ
replies input = flat_map reply (ended input)

-- a last line without a newline counts, and an empty rest is no line
abbrev pub last_reply : List ℕ → List ℕ
last_reply [] = []
last_reply (b ∷ bs) = reply (b ∷ bs)

-- all the replies to an input, in the order of its lines
abbrev pub transcript : List ℕ → List ℕ
transcript input = replies input ++ last_reply (unended input)
