-- The lines of an input, and what each says. Assumes nothing.
use Rattle.std.specs.Prelude.{ℕ, List, [], ◌∷◌, map, Option}
use Rattle.text.specs.Pieces.{pieces}
use Rattle.scripts.specs.Form.{Said, said_by}

-- a last line without a newline counts, and an empty rest is no line
abbrev pub last_line : List ℕ → List (List ℕ)
last_line [] = []
last_line (b ∷ bs) = (b ∷ bs) ∷ []

abbrev pub ended : List (List ℕ) → List (List ℕ)
ended [] = []
ended (p ∷ []) = last_line p
ended (p ∷ q ∷ ps) = p ∷ ended (q ∷ ps)

abbrev pub lines_of : List ℕ → List (List ℕ)
lines_of input = ended (pieces 10 input)

abbrev pub script_of : List ℕ → List (Option Said)
script_of input = map said_by (lines_of input)
