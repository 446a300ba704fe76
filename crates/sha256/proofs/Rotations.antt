-- Rotations to the right as sums; one goes through an exclusive or, and two make one. So the four sigmas come with
-- fewer moves: each rotation but the first is of what the one before gave. Assumes nothing.
use Rattle.std.proofs.Common.{◌≡◌, ℕ, ◌+◌, ◌*◌, ◌/◌, ◌%◌, ◌^◌, ◌<◌, bit_or, bit_xor, sym, ap, ◌∙◌, ap₂, lt_of_le_of_lt, add-zero, add_assoc, mod-lt, mul_assoc, mul_comm, add-mul, add_comm, arith, pow_pos, pow-add, shr-shr, shr_lt}
use Rattle.std.proofs.Math.Nat.{mul-mod_left}
use Rattle.std.proofs.Math.Pow.{split, high, low}
use Rattle.std.proofs.lemmas.Nat.{shl-shr, shr_le, mod-pow-add, or_lt, xor_lt, xor_block, xor_shr, xor_mod, xor_comm}
use Rattle.std.specs.Int.Bits.{or_shifted_r, xor_assoc}
use Rattle.sha256.specs.Round.{rotr, shr, Sigma0, Sigma1, sigma0, sigma1}

-- a rotation to the right by k places in a word of j + k bits
abbrev rot : ℕ → ℕ → ℕ → ℕ
rot k j x = bit_or (x / 2 ^ k) ((x * 2 ^ j) % 2 ^ (j + k))

as_sum : (k j x : ℕ) → x < 2 ^ (j + k) → rot k j x ≡ (x % 2 ^ k) * 2 ^ j + x / 2 ^ k
as_sum k j x h =
    let shifted : (x * 2 ^ j) % 2 ^ (j + k) ≡ (x % 2 ^ k) * 2 ^ j =
    ap (λ (n : ℕ). (x * 2 ^ j) % 2 ^ n) (add_comm j k) ∙ mod-pow-add (x * 2 ^ j) k j ∙ rw (shl-shr x j, mul-mod_left x (2 ^ j), add-zero) in
    rw shifted (or_shifted_r (x % 2 ^ k) j (x / 2 ^ k) (shr_lt j k h))

rot_lt : (k j x : ℕ) → x < 2 ^ (j + k) → rot k j x < 2 ^ (j + k)
rot_lt k j x h = or_lt (j + k) (x / 2 ^ k) ((x * 2 ^ j) % 2 ^ (j + k)) (lt_of_le_of_lt (shr_le x k) h) (mod-lt (x * 2 ^ j) (pow_pos (j + k)))

rot_xor : (k j x y : ℕ) → x < 2 ^ (j + k) → y < 2 ^ (j + k) → rot k j (bit_xor x y) ≡ bit_xor (rot k j x) (rot k j y)
rot_xor k j x y hx hy =
    as_sum k j (bit_xor x y) (xor_lt (j + k) x y hx hy)
    ∙ ap₂ (λ (a b : ℕ). a * 2 ^ j + b) (xor_mod x y k) (xor_shr x y k)
    ∙ sym (xor_block j (x % 2 ^ k) (y % 2 ^ k) (x / 2 ^ k) (y / 2 ^ k) (shr_lt j k hx) (shr_lt j k hy))
    ∙ sym (ap₂ bit_xor (as_sum k j x hx) (as_sum k j y hy))

-- by b and then by a
rot_rot : (a b m x : ℕ) → x < 2 ^ (m + (a + b)) → rot a (m + b) (rot b (m + a) x) ≡ rot (a + b) m x
rot_rot a b m x hx =
    let inner : x < 2 ^ (m + a + b) = rw (add_assoc m a b) hx in
    let place : m + a + b ≡ m + b + a = omega arith in
    let outer : rot b (m + a) x < 2 ^ (m + b + a) = rw (← place) (rot_lt b (m + a) x inner) in
    let top = x / 2 ^ (a + b) in
    let mid = x / 2 ^ b % 2 ^ a in
    let end = x % 2 ^ b in
    let above : x / 2 ^ b ≡ top * 2 ^ a + mid =
    sym (split (x / 2 ^ b) a) ∙ ap (λ (n : ℕ). n * 2 ^ a + mid) (shr-shr x b a ∙ ap (λ (n : ℕ). x / 2 ^ n) (add_comm b a)) in
    let moved : end * 2 ^ (m + a) ≡ end * 2 ^ m * 2 ^ a = ap (λ (n : ℕ). end * n) (pow-add 2 m a) ∙ sym (mul_assoc end (2 ^ m) (2 ^ a)) in
    let joined : (end * 2 ^ m + top) * 2 ^ a ≡ end * 2 ^ m * 2 ^ a + top * 2 ^ a = add-mul (end * 2 ^ m) top (2 ^ a) in
    let once : rot b (m + a) x ≡ (end * 2 ^ m + top) * 2 ^ a + mid =
    as_sum b (m + a) x inner ∙ ap₂ (λ (p q : ℕ). p + q) moved above ∙ sym (add_assoc (end * 2 ^ m * 2 ^ a) (top * 2 ^ a) mid) ∙ ap (λ (n : ℕ). n + mid) (sym joined) in
    let small : mid < 2 ^ a = mod-lt (x / 2 ^ b) (pow_pos a) in
    let twice : rot a (m + b) (rot b (m + a) x) ≡ mid * 2 ^ (m + b) + (end * 2 ^ m + top) =
    as_sum a (m + b) (rot b (m + a) x) outer
    ∙ ap₂ (λ (p q : ℕ). p * 2 ^ (m + b) + q)
    (ap (λ (n : ℕ). n % 2 ^ a) once ∙ low (end * 2 ^ m + top) a small)
    (ap (λ (n : ℕ). n / 2 ^ a) once ∙ high (end * 2 ^ m + top) a small) in
    let whole : rot (a + b) m x ≡ (mid * 2 ^ b + end) * 2 ^ m + top =
    as_sum (a + b) m x hx ∙ ap (λ (n : ℕ). n * 2 ^ m + top) (mod-pow-add x a b) in
    let apart : (mid * 2 ^ b + end) * 2 ^ m ≡ mid * 2 ^ b * 2 ^ m + end * 2 ^ m = add-mul (mid * 2 ^ b) end (2 ^ m) in
    let same : mid * 2 ^ (m + b) ≡ mid * 2 ^ b * 2 ^ m =
    ap (λ (n : ℕ). mid * n) (pow-add 2 m b ∙ mul_comm (2 ^ m) (2 ^ b)) ∙ sym (mul_assoc mid (2 ^ b) (2 ^ m)) in
    omega arith

swapped : (x y z : ℕ) → bit_xor (bit_xor x y) z ≡ bit_xor (bit_xor z y) x
swapped x y z = xor_comm (bit_xor x y) z ∙ ap (bit_xor z) (xor_comm x y) ∙ sym (xor_assoc z y x)

pub big0 : (x : ℕ) → x < 2 ^ 32 → rotr 2 (bit_xor (rotr 11 (bit_xor (rotr 9 x) x)) x) ≡ Sigma0 x
big0 x h =
    let y = bit_xor (rotr 9 x) x in
    let first : rotr 9 x < 2 ^ 32 = rot_lt 9 23 x h in
    let small : y < 2 ^ 32 = xor_lt 32 (rotr 9 x) x first h in
    rot_xor 2 30 (rotr 11 y) x (rot_lt 11 21 y small) h
    ∙ ap (λ (n : ℕ). bit_xor n (rotr 2 x)) (rot_rot 2 11 19 y small ∙ rot_xor 13 19 (rotr 9 x) x first h ∙ ap (λ (n : ℕ). bit_xor n (rotr 13 x)) (rot_rot 13 9 10 x h))
    ∙ swapped (rotr 22 x) (rotr 13 x) (rotr 2 x)

pub big1 : (x : ℕ) → x < 2 ^ 32 → rotr 6 (bit_xor (rotr 5 (bit_xor (rotr 14 x) x)) x) ≡ Sigma1 x
big1 x h =
    let y = bit_xor (rotr 14 x) x in
    let first : rotr 14 x < 2 ^ 32 = rot_lt 14 18 x h in
    let small : y < 2 ^ 32 = xor_lt 32 (rotr 14 x) x first h in
    rot_xor 6 26 (rotr 5 y) x (rot_lt 5 27 y small) h
    ∙ ap (λ (n : ℕ). bit_xor n (rotr 6 x)) (rot_rot 6 5 21 y small ∙ rot_xor 11 21 (rotr 14 x) x first h ∙ ap (λ (n : ℕ). bit_xor n (rotr 11 x)) (rot_rot 11 14 7 x h))
    ∙ swapped (rotr 25 x) (rotr 11 x) (rotr 6 x)

pub small0 : (x : ℕ) → x < 2 ^ 32 → bit_xor (rotr 7 (bit_xor (rotr 11 x) x)) (shr 3 x) ≡ sigma0 x
small0 x h =
    ap (λ (n : ℕ). bit_xor n (shr 3 x))
    (rot_xor 7 25 (rotr 11 x) x (rot_lt 11 21 x h) h ∙ ap (λ (n : ℕ). bit_xor n (rotr 7 x)) (rot_rot 7 11 14 x h) ∙ xor_comm (rotr 18 x) (rotr 7 x))

pub small1 : (x : ℕ) → x < 2 ^ 32 → bit_xor (rotr 17 (bit_xor (rotr 2 x) x)) (shr 10 x) ≡ sigma1 x
small1 x h =
    ap (λ (n : ℕ). bit_xor n (shr 10 x))
    (rot_xor 17 15 (rotr 2 x) x (rot_lt 2 30 x h) h ∙ ap (λ (n : ℕ). bit_xor n (rotr 17 x)) (rot_rot 17 2 13 x h) ∙ xor_comm (rotr 19 x) (rotr 17 x))
