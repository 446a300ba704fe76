-- A message cut at a block's end is chained part by part. Assumes nothing.
use Rattle.std.proofs.Common.{◌≡◌, ℕ, zero, suc, ◌+◌, ◌*◌, ◌≤◌, List, ◌++◌, length, take, drop, sym, refl, ap, ◌∙◌, add-zero, add-suc, arith, length-drop}
use lib.Seq.{take-append-le}
use Rattle.std.proofs.lemmas.List.{drop-append-le, drop_at, drop-drop}
use Rattle.hash.specs.Meaning.{Meaning, chained}

module _ (m : Meaning) (c k : List ℕ) where
  -- blocks of the front look at the front alone
  front : (xs ys : List ℕ) (n : ℕ) → 64 * n ≤ length xs → chained m c k (xs ++ ys) n ≡ chained m c k xs n
  front xs ys zero h = refl
  front xs ys (suc n) h =
      let cut : drop (64 * n) (xs ++ ys) ≡ drop (64 * n) xs ++ ys = drop-append-le (64 * n) xs ys (omega arith) in
      let long : 64 ≤ length (drop (64 * n) xs) = simp length-drop (omega arith) in
      let same : take 64 (drop (64 * n) (xs ++ ys)) ≡ take 64 (drop (64 * n) xs) = rw cut (take-append-le 64 (drop (64 * n) xs) ys long) in
      let before = front xs ys n (omega arith) in
      cc

  pub chained_append : (xs ys : List ℕ) (i j : ℕ) → length xs ≡ 64 * i → chained m c k (xs ++ ys) (i + j) ≡ chained m (chained m c k xs i) k ys j
  chained_append xs ys i zero e = rw add-zero (front xs ys i (omega arith))
  chained_append xs ys i (suc j) e =
      let before = chained_append xs ys i j e in
      let place : 64 * (i + j) ≡ length xs + 64 * j = omega arith in
      let back : drop (64 * (i + j)) (xs ++ ys) ≡ drop (64 * j) ys =
      rw place (sym (drop-drop (64 * j) (length xs) (xs ++ ys)) ∙ ap (drop (64 * j)) (drop_at xs ys (length xs) refl)) in
      rw add-suc (cc)
