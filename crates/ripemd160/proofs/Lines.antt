-- The steps of a row, one by one and eight by eight. Assumes nothing.
use Rattle.std.proofs.Common.{◌≡◌, ℕ, zero, suc, ◌+◌, ◌-◌, ◌≤◌, List, refl, ap, add-zero, add_assoc, add-suc, arith}
use Rattle.ripemd160.specs.Round.{Tables, turned, steps}

-- no steps
pub steps_none : (line : Tables) (r k : ℕ) (xs s : List ℕ) (from n : ℕ) → n ≡ 0 → steps line r k xs s from n ≡ s
unfolding steps
steps_none line r k xs s from zero e = refl
steps_none line r k xs s from (suc n) e = absurd (omega arith)

-- step i follows those below it
pub steps_next : (line : Tables) (r k : ℕ) (xs s : List ℕ) (from i : ℕ) → from ≤ i →
    steps line r k xs s from (i + 1 - from) ≡ turned line r k xs (steps line r k xs s from (i - from)) i
unfolding steps
steps_next line r k xs s from i h =
    let more : i + 1 - from ≡ suc (i - from) = omega arith in
    let at : from + (i - from) ≡ i = omega arith in
    rw (more, at)

-- m steps, and then n
pub steps_steps : (line : Tables) (r k : ℕ) (xs s : List ℕ) (from m n : ℕ) →
    steps line r k xs (steps line r k xs s from m) (from + m) n ≡ steps line r k xs s from (m + n)
unfolding steps
steps_steps line r k xs s from m zero = rw add-zero
steps_steps line r k xs s from m (suc n) =
    rw (add-suc, add_assoc from m n) (ap (λ w. turned line r k xs w (from + (m + n))) (steps_steps line r k xs s from m n))
