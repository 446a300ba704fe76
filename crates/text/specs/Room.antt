-- Room at the end of a Vec. Assumes nothing.
use Rattle.std.specs.Prelude.{ℕ, ◌+◌, ◌≤◌, vec_len, vec_capacity, Vec}

-- n bytes more need no memory
abbrev pub HasRoom : {A : Type 0} → Vec ℕ A → ℕ → Type 0
HasRoom out n = vec_len out + n ≤ vec_capacity out
