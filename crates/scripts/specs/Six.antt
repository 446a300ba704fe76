-- Up to six numbers. Assumes nothing.
use Rattle.std.specs.Prelude.{ℕ, ◌≤◌, List, [], ◌∷◌, slice_index}

-- the first six of the numbers, 0 where there are fewer
abbrev pub six_of : List ℕ → List ℕ
six_of ns = slice_index ns 0 ∷ slice_index ns 1 ∷ slice_index ns 2 ∷ slice_index ns 3 ∷ slice_index ns 4 ∷ slice_index ns 5 ∷ []

-- the numbers of an order fit their types
abbrev pub OrderFits : List ℕ → Type 0
OrderFits n = (slice_index n 0 ≤ 255) × (slice_index n 1 ≤ 4294967295) × (slice_index n 2 ≤ 255) × (slice_index n 3 ≤ 255) × (slice_index n 4 ≤ 65535) × (slice_index n 5 ≤ 65535)
