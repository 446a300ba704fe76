-- Sums of chains, word by word. Assumes nothing.
use Rattle.std.proofs.Common.{◌≡◌, ℕ, zero, suc, ◌+◌, ◌^◌, ◌<◌, Bool, true, false, ◌&&◌, eqb, List, [], ◌∷◌, length, get_or, take, set, sym, refl, ap, ◌∙◌, le_of_suc-le-suc, add-one, arith, ne_eqb, eqb-true}
use lib.Bits.{bit_or, or_add_and, and_le_r}
use Rattle.hash.specs.Words.{plus, blank}
use Rattle.hash.specs.Rounds.{sums, added}

pub sums_length : (xs ys : List ℕ) → length xs ≡ length ys → length (sums xs ys) ≡ length xs
unfolding sums
sums_length [] ys e = refl
sums_length (x ∷ xs) [] e = sym e
sums_length (x ∷ xs) (y ∷ ys) e = ap suc (sums_length xs ys (omega arith))

-- one word more
added_suc : (xs ys : List ℕ) (i : ℕ) → i < length xs → i < length ys → set (added xs ys i) i (plus (get_or (added xs ys i) i 0) (get_or ys i 0)) ≡ added xs ys (suc i)
unfolding sums
added_suc [] ys i h k = absurd (omega arith)
added_suc (x ∷ xs) [] i h k = absurd (omega arith)
added_suc (x ∷ xs) (y ∷ ys) zero h k = refl
added_suc (x ∷ xs) (y ∷ ys) (suc i) h k = ap (λ (l : List ℕ). plus x y ∷ l) (added_suc xs ys i (le_of_suc-le-suc h) (le_of_suc-le-suc k))

pub added_none : (xs ys : List ℕ) → added xs ys 0 ≡ xs
unfolding sums
added_none xs ys = refl

pub added_more : (xs ys zs : List ℕ) (i x : ℕ) → i < length xs → i < length ys → zs ≡ added xs ys i → x ≡ plus (get_or zs i 0) (get_or ys i 0) →
    set zs i x ≡ added xs ys (i + 1)
added_more xs ys zs i x h k e v = rw (v, e, add-one) (added_suc xs ys i h k)

-- a word to which zero is added
pub plus_none : (k c x : ℕ) → c ≡ k → c < 2 ^ 32 → x ≡ 0 → c ≡ plus k x
unfolding plus
plus_none k c x isK few none = omega (arith, isK, few, none)

both_left : (a b : Bool) → (a && b) ≡ true → a ≡ true
both_left true b e = refl
both_left false b e = e

both_right : (a b : Bool) → (a && b) ≡ true → b ≡ true
both_right true b e = e
both_right false b e = let z : true ≡ false = sym e in cc

-- a bit of one of two words
or_none : (x y : ℕ) → eqb (bit_or x y) 0 ≡ (eqb x 0 && eqb y 0)
or_none zero y = refl
or_none (suc n) y =
    let both = or_add_and (suc n) y in
    let few = and_le_r (suc n) y in
    ne_eqb (bit_or (suc n) y) 0 (λ (e : bit_or (suc n) y ≡ 0). omega (arith, both, few, e)) ∙ sym (ap (λ (b : Bool). b && eqb y 0) (ne_eqb (suc n) 0 (λ (e : suc n ≡ 0). omega (arith, e))))

pub or_blank : (a b c d : ℕ) → eqb (bit_or (bit_or (bit_or a b) c) d) 0 ≡ (eqb a 0 && eqb b 0 && eqb c 0 && eqb d 0)
or_blank a b c d =
    or_none (bit_or (bit_or a b) c) d ∙
    ap (λ (t : Bool). t && eqb d 0) (or_none (bit_or a b) c ∙ ap (λ (t : Bool). t && eqb c 0) (or_none a b))

take-zeros : (n : ℕ) (xs : List ℕ) → ((i : ℕ) → i < n → get_or xs i 0 ≡ 0) → (i : ℕ) → get_or (take n xs) i 0 ≡ 0
take-zeros zero xs h i = refl
take-zeros (suc n) [] h i = refl
take-zeros (suc n) (x ∷ xs) h zero = h zero (omega arith)
take-zeros (suc n) (x ∷ xs) h (suc i) = take-zeros n xs (λ (j : ℕ) (lt : j < n). h (suc j) (omega (arith, lt))) i

-- where no word is added, each is zero
module _ (added : List ℕ) (e : blank added ≡ true) where
  abbrev is : ℕ → Bool
  is i = eqb (get_or added i 0) 0

  to2 : (is 0 && is 1 && is 2) ≡ true
  to2 = both_left (is 0 && is 1 && is 2) (is 3) e

  to1 : (is 0 && is 1) ≡ true
  to1 = both_left (is 0 && is 1) (is 2) to2

  four : (i : ℕ) → i < 4 → get_or added i 0 ≡ 0
  four zero lt = eqb-true _ 0 (both_left (is 0) (is 1) to1)
  four (suc zero) lt = eqb-true _ 0 (both_right (is 0) (is 1) to1)
  four (suc (suc zero)) lt = eqb-true _ 0 (both_right (is 0 && is 1) (is 2) to2)
  four (suc (suc (suc zero))) lt = eqb-true _ 0 (both_right (is 0 && is 1 && is 2) (is 3) e)
  four (suc (suc (suc (suc i)))) lt = absurd (omega (arith, lt))

  pub blank_at : (i : ℕ) → get_or (take 4 added) i 0 ≡ 0
  blank_at = take-zeros 4 added four
