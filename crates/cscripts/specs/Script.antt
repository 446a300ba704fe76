-- What the exported script answers, and what it leaves in the places lent to it. Assumes nothing.
use Rattle.std.specs.Prelude.{◌≡◌, ℕ, ◌<◌, ◌≤◌, List, ◌++◌, length, drop}
use Rattle.scripts.specs.Play.{Replied}

-- 0: the replies to the input stand first in the place, and the bytes past them stay
pub record Laid (input before after : List ℕ) (size : ℕ) : Type 0 where
  pub replies : List ℕ
  pub replied : Replied input replies
  pub sized : size ≡ length replies
  pub fits : size ≤ length before
  pub laid : after ≡ replies ++ drop size before

-- 6: they do not fit, and the place is as it was
pub record Short (input before after : List ℕ) (size : ℕ) : Type 0 where
  pub replies : List ℕ
  pub replied : Replied input replies
  pub sized : size ≡ length replies
  pub long : length before < size
  pub kept : after ≡ before
