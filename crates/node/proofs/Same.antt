-- Bytes compared by their differing bits. Assumes nothing.
use Rattle.std.proofs.Common.{◌≡◌, ℕ, ◌≤◌, Bool, true, false, eqb, List, [], ◌∷◌, length, take, Decides, sym, refl, ap, ◌∙◌, arith, eq-eqb, eqb-true}
use lib.Bits.{bit_or, bit_xor, xor_self, xor_assoc, xor_zero_l, xor_zero_r, or_zero_l, or_add_and, xor_add_and}
use Rattle.std.specs.List.{fold, zip}
use Rattle.node.specs.Tags.{differences}
use Rattle.std.specs.Str.{bytes_eq}
use Rattle.std.proofs.lemmas.Slice.Eq.{bytes_eq-Decides}

-- no bit differs exactly where the numbers are equal
pub xor_none : (a b : ℕ) → bit_xor a b ≡ 0 → a ≡ b
xor_none a b e = sym (xor_zero_r a) ∙ ap (bit_xor a) (sym (xor_self b)) ∙ sym (xor_assoc a b b) ∙ ap (λ (x : ℕ). bit_xor x b) e ∙ xor_zero_l b

-- nothing is set exactly where nothing is in either
pub or_none : (a b : ℕ) → bit_or a b ≡ 0 → (a ≡ 0) × (b ≡ 0)
or_none a b e = (omega (arith, or_add_and a b, xor_add_and a b), omega (arith, or_add_and a b, xor_add_and a b))

-- no bit is left exactly where none was there and the bytes beside one another are equal
folded : (xs ys : List ℕ) (d : ℕ) → length ys ≤ length xs →
    let r = fold (λ bits p. bit_or bits (bit_xor p.0 p.1)) d (zip xs ys) in
    (r ≡ 0 → (d ≡ 0) × (ys ≡ take (length ys) xs)) × (d ≡ 0 → ys ≡ take (length ys) xs → r ≡ 0)
folded [] [] d le = (λ e. (e, refl), λ e q. e)
folded [] (y ∷ ys) d le = absurd (omega arith)
folded (x ∷ xs) [] d le = (λ e. (e, refl), λ e q. e)
folded (x ∷ xs) (y ∷ ys) d le =
    let rest = folded xs ys (bit_or d (bit_xor x y)) (omega arith) in (
      λ e.
          let p = rest.0 e in
          let z = or_none d (bit_xor x y) p.0 in
          let here = xor_none x y z.1 in
          let behind = p.1 in
          (z.0, cc),
      λ e q.
          let here : x ≡ y = cc in
          let behind : ys ≡ take (length ys) xs = cc in
          let none : bit_or d (bit_xor x y) ≡ 0 = ap (λ (k : ℕ). bit_or k (bit_xor x y)) e ∙ or_zero_l (bit_xor x y) ∙ ap (λ (k : ℕ). bit_xor k y) here ∙ xor_self y in
          rest.1 none behind,
    )

-- two tests of one fact are equal
same_test : (a b : Bool) (P : Type 0) → Decides a P → Decides b P → a ≡ b
same_test true true P p q = refl
same_test true false P p q = sym (q.1 (p.0 refl))
same_test false true P p q = p.1 (q.0 refl)
same_test false false P p q = refl

pub tested : (xs ys : List ℕ) → length ys ≤ length xs → eqb (differences xs ys) 0 ≡ bytes_eq ys (take (length ys) xs)
tested xs ys le =
    let f = folded xs ys 0 le in
    same_test (eqb (differences xs ys) 0) (bytes_eq ys (take (length ys) xs)) (ys ≡ take (length ys) xs)
    (λ e. (f.0 (eqb-true (differences xs ys) 0 e)).1, λ e. eq-eqb (differences xs ys) 0 (f.1 refl e))
    (bytes_eq-Decides ys (take (length ys) xs))
