-- A meter, and a hash whose meter has moved. Assumes nothing.
use Rattle.std.specs.Prelude.{◌≡◌, ℕ, zero, suc, ◌+◌, ◌-◌, ◌^◌, ◌<◌, min}
use Rattle.std.proofs.Common.{arith}

-- what a meter reads that was at `was` and has moved by r: it stays at its last reading
abbrev pub moved : ℕ → ℕ → ℕ
moved was r = min (was + r) (2 ^ 64 - 1)

-- what a meter shows that is at n
abbrev pub shown : ℕ → ℕ
shown n = min n (2 ^ 64 - 1)

-- the two laws of a hash's meter
pub shown_capped : (n : ℕ) → shown n < 2 ^ 64
shown_capped n = omega arith

pub shown_counts : (n : ℕ) → shown (moved n 1) ≡ moved (shown n) 1
shown_counts n = omega arith

-- a hash after r rounds, where `next` is the hash after one: nothing but its meter differs
abbrev pub after : {H : Type 0} → (H → H) → H → ℕ → H
after next h zero = h
after next h (suc r) = next (after next h r)
