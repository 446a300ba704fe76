-- Each of SHA-256's constants is a cube root's fraction: one test over the table. Assumes nothing.
use Rattle.std.proofs.Common.{◌≡◌, ℕ, zero, suc, ◌+◌, ◌*◌, ◌^◌, ◌<◌, Bool, true, ◌&&◌, cond, ltb, leb, get_or, sym, refl, subst}
use Rattle.std.proofs.lemmas.Bool.{agree_below_at, and_parts, ltb-true, leb-true}
use Rattle.sha256.specs.Primes.{prime, primes, CubeRoot}
use Rattle.sha256.specs.Round.{constants}

-- the largest k up to n with k ^ 3 ≤ p
abbrev root : ℕ → ℕ → ℕ
root zero p = 0
root (suc n) p = cond (leb (suc n ^ 3) p) (suc n) (root n p)

abbrev low : ℕ → ℕ → Bool
low p c = leb ((root 6 p * 2 ^ 32 + c) ^ 3) (p * 2 ^ 96)

abbrev high : ℕ → ℕ → Bool
high p c = ltb (p * 2 ^ 96) ((root 6 p * 2 ^ 32 + c + 1) ^ 3)

abbrev passes : ℕ → ℕ → Bool
passes p c = ltb c (2 ^ 32) && (low p c && high p c)

passed : (p c : ℕ) → passes p c ≡ true → CubeRoot p c
passed p c e =
    let all = and_parts (ltb c (2 ^ 32)) (low p c && high p c) e in
    let near = and_parts (low p c) (high p c) all.1 in
    record { whole = root 6 p; bits = ltb-true _ _ all.0; below = leb-true _ _ near.0; above = ltb-true _ _ near.1 }

right : ℕ → Bool
right k = passes (get_or primes k 0) (get_or constants k 0)

pub rooted : (k x : ℕ) → k < 64 → x ≡ get_or constants k 0 → CubeRoot (prime k) x
unfolding right prime
rooted k x h e = let P : ℕ → Type 0 = CubeRoot (get_or primes k 0) in subst P (sym e) (passed _ _ (agree_below_at right (λ i. true) 64 k refl h))
