-- Ch and Maj with fewer operations than their definitions have. Assumes nothing.
use Rattle.std.proofs.Common.{◌≡◌, ℕ, zero, suc, ◌+◌, ◌-◌, ◌*◌, ◌/◌, ◌%◌, ◌^◌, ◌<◌, sym, refl, ap, ◌∙◌, arith}
use lib.Arith.{bin_ind}
use lib.Bits.{bit_and, bit_or, bit_xor, and_shr, xor_shr, and_mod, xor_mod, and_mask, and_comm, and_self, and_zero_r, xor_comm, xor_assoc, xor_self, xor_add_and, or_disjoint, xor_disjoint}
use Rattle.std.proofs.lemmas.Nat.{and_assoc}
use Rattle.hash.specs.Words.{negated}
use Rattle.hash.specs.Rounds.{ch, maj}

digit : (x y z : ℕ) → x < 2 → y < 2 → z < 2 → bit_and x (bit_xor y z) ≡ bit_xor (bit_and x y) (bit_and x z)
digit zero y z hx hy hz = refl
digit (suc zero) zero z hx hy hz = refl
digit (suc zero) (suc zero) zero hx hy hz = refl
digit (suc zero) (suc zero) (suc zero) hx hy hz = refl
digit (suc zero) (suc zero) (suc (suc z)) hx hy hz = absurd (omega arith)
digit (suc zero) (suc (suc y)) z hx hy hz = absurd (omega arith)
digit (suc (suc x)) y z hx hy hz = absurd (omega arith)

pub and_xor : (a b c : ℕ) → bit_and a (bit_xor b c) ≡ bit_xor (bit_and a b) (bit_and a c)
and_xor =
    bin_ind (λ (n : ℕ). (b c : ℕ) → bit_and n (bit_xor b c) ≡ bit_xor (bit_and n b) (bit_and n c)) (λ b c. refl)
    (λ n ih b c.
    let high : bit_and n (bit_xor b c) / 2 ≡ bit_xor (bit_and n b) (bit_and n c) / 2 =
    and_shr n (bit_xor b c) 1 ∙ ap (bit_and (n / 2)) (xor_shr b c 1) ∙ ih (b / 2) (c / 2)
    ∙ sym (xor_shr (bit_and n b) (bit_and n c) 1 ∙ rw (and_shr n b 1, and_shr n c 1)) in
    let low : bit_and n (bit_xor b c) % 2 ≡ bit_xor (bit_and n b) (bit_and n c) % 2 =
    and_mod n (bit_xor b c) 1 ∙ ap (bit_and (n % 2)) (xor_mod b c 1) ∙ digit (n % 2) (b % 2) (c % 2) (omega arith) (omega arith) (omega arith)
    ∙ sym (xor_mod (bit_and n b) (bit_and n c) 1 ∙ rw (and_mod n b 1, and_mod n c 1)) in
    omega arith)

-- z where x is 0, y where it is 1: z with the bits turned in which it differs from y where x is 1
pub chosen : (x y z : ℕ) → x < 2 ^ 32 → z < 2 ^ 32 → bit_xor (bit_and x (bit_xor y z)) z ≡ ch x y z
unfolding ch negated
chosen x y z hx hz =
    let full : bit_and x (2 ^ 32 - 1) ≡ x % 2 ^ 32 = and_mask x 32 in
    let sum : bit_xor x (2 ^ 32 - 1) + bit_and x (2 ^ 32 - 1) * 2 ≡ x + (2 ^ 32 - 1) = xor_add_and x (2 ^ 32 - 1) in
    let turned : 2 ^ 32 - 1 - x ≡ bit_xor x (2 ^ 32 - 1) = omega arith in
    let kept : bit_and z (2 ^ 32 - 1) ≡ z = and_mask z 32 ∙ (let m : z % 2 ^ 32 ≡ z = omega arith in m) in
    let rest : bit_and (2 ^ 32 - 1 - x) z ≡ bit_xor (bit_and x z) z =
    ap (λ (n : ℕ). bit_and n z) turned ∙ and_comm (bit_xor x (2 ^ 32 - 1)) z ∙ and_xor z x (2 ^ 32 - 1) ∙ rw (kept, and_comm z x) in
    rw (and_xor x y z, xor_assoc (bit_and x y) (bit_and x z) z, ← rest)

-- no bit is a word's own and also turned
apart : (x : ℕ) → x < 2 ^ 32 → bit_and x (negated x) ≡ 0
unfolding negated
apart x h =
    let full : bit_and x (2 ^ 32 - 1) ≡ x % 2 ^ 32 = and_mask x 32 in
    let sum : bit_xor x (2 ^ 32 - 1) + bit_and x (2 ^ 32 - 1) * 2 ≡ x + (2 ^ 32 - 1) = xor_add_and x (2 ^ 32 - 1) in
    let turned : 2 ^ 32 - 1 - x ≡ bit_xor x (2 ^ 32 - 1) = omega arith in
    let own : bit_and x (2 ^ 32 - 1) ≡ x = full ∙ (let m : x % 2 ^ 32 ≡ x = omega arith in m) in
    ap (bit_and x) turned ∙ and_xor x x (2 ^ 32 - 1) ∙ rw (and_self x, own, xor_self x)

both_apart : (x y z : ℕ) → x < 2 ^ 32 → bit_and (bit_and x y) (bit_and (negated x) z) ≡ 0
both_apart x y z h =
    ap (λ (n : ℕ). bit_and n (bit_and (negated x) z)) (and_comm x y) ∙ and_assoc (bit_and (negated x) z) y x
    ∙ ap (bit_and y) (sym (and_assoc z x (negated x)) ∙ ap (λ (n : ℕ). bit_and n z) (apart x h)) ∙ and_zero_r y

-- the same with an or, since the two parts have no bit in common
pub either : (x y z : ℕ) → x < 2 ^ 32 → z < 2 ^ 32 → bit_xor (bit_and x (bit_xor y z)) z ≡ bit_or (bit_and x y) (bit_and (negated x) z)
unfolding ch
either x y z hx hz =
    let none = both_apart x y z hx in
    chosen x y z hx hz ∙ xor_disjoint (bit_and x y) (bit_and (negated x) z) none ∙ sym (or_disjoint (bit_and x y) (bit_and (negated x) z) none)

-- most of three: where y and z differ, x decides
pub most : (x y z : ℕ) → bit_xor (bit_and y z) (bit_and (bit_xor y z) x) ≡ maj x y z
unfolding maj
most x y z = xor_comm (bit_and y z) (bit_and (bit_xor y z) x) ∙ ap (λ (n : ℕ). bit_xor n (bit_and y z)) (and_comm (bit_xor y z) x ∙ and_xor x y z)
