-- A hash after some rounds. Assumes nothing.
use Rattle.std.proofs.Common.{◌≡◌, ℕ, zero, suc, ◌+◌, ◌^◌, ◌<◌, refl, ap, add-zero, add-suc, add-one, arith}
use Rattle.hash.specs.Meter.{after, moved}

module _ {H : Type 0} (next : H → H) where
  pub after_none : (h : H) → after next h 0 ≡ h
  after_none h = refl

  pub after_one : (h : H) → after next h 1 ≡ next h
  after_one h = refl

  pub after_more : (h : H) (r : ℕ) → next (after next h r) ≡ after next h (r + 1)
  after_more h r = rw add-one

  -- r rounds and then s
  pub after_after : (h : H) (r s : ℕ) → after next (after next h r) s ≡ after next h (r + s)
  after_after h r zero = rw add-zero
  after_after h r (suc s) = rw add-suc (ap next (after_after h r s))

  -- what the meter reads after r rounds
  pub reads : (reading : H → ℕ) → ((h : H) → reading h < 2 ^ 64) → ((h : H) → reading (next h) ≡ moved (reading h) 1) →
      (h : H) (r : ℕ) → reading (after next h r) ≡ moved (reading h) r
  reads reading low one h zero = let l = low h in omega arith
  reads reading low one h (suc r) =
      let before = reads reading low one h r in
      let now = one (after next h r) in
      omega arith
