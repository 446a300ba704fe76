-- What the calls of a closure made that each call leaves as it was: an array from its places, and an array from another. Assumes nothing.
use Rattle.std.proofs.Common.{◌≡◌, ℕ, zero, suc, ◌+◌, ◌<◌, ◌≤◌, List, length, get_or, map, sym, refl, ap, ◌∙◌, subst, arith, ⊎_elim, eq-or-lt_of_le}
use Rattle.std.proofs.lemmas.List.{ext_get_or, get_or-map, length-map}
use Rattle.std.specs.Fn.{Called}
use Rattle.std.specs.Array.{IsFromFnResult, IsFromFnResultFrom, IsMapOf, MapsFrom}
use denote.Param.Members.{Mut}

module _ {F B : Type 0} (g : Mut F (ℕ × Unit {0}) B) (f : F) (h : ℕ → B) (d : B) (size : ℕ)
    (step : (i : ℕ) (y : B) (q : F) → i < size → Called g f (i, tt) y q → (y ≡ h i) × (q ≡ f)) where
  placed : (ys : List B) (n i : ℕ) (p : F) → i + n ≡ size → p ≡ f → IsFromFnResultFrom g p ys i n → (k : ℕ) → i ≤ k → k < size → get_or ys k d ≡ h k
  placed ys zero i p all same each k le lt = absurd (omega arith)
  placed ys (suc n) i p all same (q, y, at, did, rest) k le lt =
      let one = step i y q (omega arith) (subst (λ (x : F). Called g x (i, tt) y q) same did) in
      ⊎_elim (λ (e : i ≡ k). subst (λ (j : ℕ). get_or ys j d ≡ h j) e (at.1 d ∙ one.0)) (λ (l : i < k). placed ys n (i + 1) q (omega arith) one.1 rest k (omega arith) lt) (eq-or-lt_of_le le)

pub made : {F B : Type 0} {g : Mut F (ℕ × Unit {0}) B} {f : F} {ys : List B} {n : ℕ} → IsFromFnResult g f ys n → (h : ℕ → B) (d : B) →
    ((i : ℕ) (y : B) (q : F) → i < n → Called g f (i, tt) y q → (y ≡ h i) × (q ≡ f)) → (k : ℕ) → k < n → get_or ys k d ≡ h k
made {g} {f} {ys} {n} all h d step k lt = placed g f h d n step ys n 0 f (omega arith) refl all.each k (omega arith) lt

module _ {F A B : Type 0} (g : Mut F (A × Unit {0}) B) (f : F) (h : A → B) (c : A) (d : B) (size : ℕ)
    (step : (x : A) (y : B) (q : F) → Called g f (x, tt) y q → (y ≡ h x) × (q ≡ f)) where
  turned : (xs : List A) (ys : List B) (n i : ℕ) (p : F) → i + n ≡ size → p ≡ f → MapsFrom g p xs ys i n → (k : ℕ) → i ≤ k → k < size → get_or ys k d ≡ h (get_or xs k c)
  turned xs ys zero i p all same each k le lt = absurd (omega arith)
  turned xs ys (suc n) i p all same (q, x, y, from, to, did, rest) k le lt =
      let one = step x y q (subst (λ (z : F). Called g z (x, tt) y q) same did) in
      ⊎_elim (λ (e : i ≡ k). subst (λ (j : ℕ). get_or ys j d ≡ h (get_or xs j c)) e (to.1 d ∙ one.0 ∙ ap h (sym (from.1 c))))
      (λ (l : i < k). turned xs ys n (i + 1) q (omega arith) one.1 rest k (omega arith) lt) (eq-or-lt_of_le le)

pub mapped : {F A B : Type 0} {g : Mut F (A × Unit {0}) B} {f : F} {xs : List A} {ys : List B} {n : ℕ} → IsMapOf g f xs ys n → length xs ≡ n →
    (h : A → B) (c : A) (d : B) → ((x : A) (y : B) (q : F) → Called g f (x, tt) y q → (y ≡ h x) × (q ≡ f)) → ys ≡ map h xs
mapped {g} {f} {xs} {ys} {n} all long h c d step =
    ext_get_or d ys (map h xs) (all.long ∙ sym (length-map xs h ∙ long))
    (λ k lt. turned g f h c d n step xs ys n 0 f (omega arith) refl all.each k (omega arith) (omega (arith, all.long)) ∙ sym (get_or-map h xs k c d (omega (arith, all.long))))
