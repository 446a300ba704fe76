-- The rule of SHA-256's constants. Assumes nothing.
use Rattle.std.specs.Prelude.{ℕ, zero, suc, ◌+◌, ◌-◌, ◌*◌, ◌%◌, ◌^◌, ◌<◌, ◌≤◌, Bool, true, cond, not, ◌&&◌, List, [], ◌∷◌, ◌++◌, ◌==◌, slice_index}

-- no number from 2 to n divides p
abbrev pub undivided : ℕ → ℕ → Bool
undivided p zero = true
undivided p (suc zero) = true
undivided p (suc (suc n)) = not (p % suc (suc n) == 0) && undivided p (suc n)

abbrev pub is_prime : ℕ → Bool
is_prime p = undivided p (p - 1)

-- the primes from 2 to n + 1, in order
abbrev pub primes_to : ℕ → List ℕ
primes_to zero = []
primes_to (suc n) = cond (is_prime (suc (suc n))) (primes_to n ++ suc (suc n) ∷ []) (primes_to n)

-- the first 64 primes: there are 64 up to 311
abbrev pub primes : List ℕ
primes = primes_to 310

-- prime t, counted from 0: 2, 3, 5, ..
unfoldable pub prime : ℕ → ℕ
prime t = slice_index primes t

-- c is the first 32 bits of the fraction of the cube root of p: behind the whole part they make
-- the largest m with m ^ 3 ≤ p * 2 ^ 96
pub record CubeRoot (p c : ℕ) : Type 0 where
  pub whole : ℕ
  pub bits : c < 2 ^ 32
  pub below : (whole * 2 ^ 32 + c) ^ 3 ≤ p * 2 ^ 96
  pub above : p * 2 ^ 96 < (whole * 2 ^ 32 + c + 1) ^ 3
