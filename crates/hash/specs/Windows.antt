-- What code keeps of a schedule while it runs the steps: a window of sixteen words, in which each word past the first sixteen
-- takes the place of the one sixteen before it. Assumes nothing.
use Rattle.std.specs.Prelude.{◌≡◌, ℕ, ◌+◌, ◌-◌, ◌%◌, ◌<◌, ◌≤◌, List, length, slice_index, slice_set}
use Rattle.hash.specs.Rounds.{steps}

-- a window into which word t was put, made from the sixteen before it; word m stands at m % 16
unfoldable pub renewed : ((ℕ → ℕ) → ℕ → ℕ) → List ℕ → ℕ → List ℕ
renewed later window t = slice_set window (t % 16) (later (λ m. slice_index window (m % 16)) t)

-- the window before step t holds the sixteen words of the schedule ws before word t, and before that the first sixteen
pub record Holds (window ws : List ℕ) (t : ℕ) : Type 0 where
  pub sized : length window ≡ 16
  pub here : (m : ℕ) → t ≤ m + 16 → m < 16 + (t - 16) → slice_index window (m % 16) ≡ slice_index ws m

-- the steps before step t gave s, and the window is as step t finds it
pub record Before (one : List ℕ → ℕ → ℕ → List ℕ) (chain ws window s : List ℕ) (t : ℕ) : Type 0 where
  pub held : Holds window ws t
  pub done : s ≡ steps one chain ws t
