-- Lists cut in two, and parts of one written over. Assumes nothing.
use Rattle.std.proofs.Common.{◌≡◌, ℕ, ◌+◌, ◌-◌, min, List, ◌++◌, length, take, drop, sym, ap, ◌∙◌, inl, inr, arith}
use borrow.Rule.Slice.PartMut.{put_mid}
use Rattle.std.proofs.lemmas.List.{take_at, drop_at, drop-drop, take_all, drop_all}
use Rattle.std.proofs.lemmas.Bool.{cases_lt}

-- past the end of the list it does not matter where it is cut
pub take_min : (xs : List ℕ) (n m : ℕ) → n ≡ min m (length xs) → take n xs ≡ take m xs
take_min xs n m e =
    elim (cases_lt m (length xs)) [
      | inl h ↦ let s : n ≡ m = omega arith in ap (λ k. take k xs) s
      | inr h ↦ take_all n xs (omega arith) ∙ sym (take_all m xs (omega arith))
    ]

pub drop_min : (xs : List ℕ) (n m : ℕ) → n ≡ min m (length xs) → drop n xs ≡ drop m xs
drop_min xs n m e =
    elim (cases_lt m (length xs)) [
      | inl h ↦ let s : n ≡ m = omega arith in ap (λ k. drop k xs) s
      | inr h ↦ drop_all n xs (omega arith) ∙ sym (drop_all m xs (omega arith))
    ]

-- a front of eight and then a body, written over a list one after the other
pub laid :
    (front body out : List ℕ) → length front ≡ 8 →
    put_mid 8 (8 + length body - 8) (front ++ drop 8 out) body ≡ front ++ (body ++ drop (8 + length body) out)
laid front body out e =
    let n : 8 + length body - 8 ≡ length body = omega arith in
    let f = take_at front (drop 8 out) 8 e in
    let r = drop_at front (drop 8 out) 8 e in
    let d = drop-drop (length body) 8 out in
    cc
