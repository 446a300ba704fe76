-- Numbers written one after the other. Assumes nothing.
use Rattle.std.proofs.Common.{◌≡◌, ℕ, ◌+◌, ◌<◌, ◌≤◌, cond, List, [], ◌∷◌, ◌++◌, length, get_or, drop, is_ok, IfOk, Ok, Err, decimal, Result, sym, ap, ◌∙◌, append_assoc}
use Rattle.std.proofs.lemmas.List.{append-nil, at_drop_more, at_drop_all}
use Rattle.scripts.specs.Reply.{spaced}

module _ (ns : List ℕ) (i : ℕ) (v all : List ℕ) (so : v ++ spaced (drop i ns) ≡ all) where
  pub spaced_more : (u w : List ℕ) → i < length ns → u ≡ v ++ 32 ∷ [] → w ≡ u ++ decimal (get_or ns i 0) → w ++ spaced (drop (i + 1) ns) ≡ all
  spaced_more u w lt space digits =
      ap (λ l. l ++ spaced (drop (i + 1) ns)) (digits ∙ ap (λ l. l ++ decimal (get_or ns i 0)) space)
      ∙ append_assoc (v ++ 32 ∷ []) (decimal (get_or ns i 0)) (spaced (drop (i + 1) ns))
      ∙ append_assoc v (32 ∷ []) (decimal (get_or ns i 0) ++ spaced (drop (i + 1) ns))
      ∙ ap (λ l. v ++ l) (sym (at_drop_more spaced ns i 0 lt))
      ∙ so

  pub spaced_all : length ns ≤ i → v ≡ all
  spaced_all le = sym (append-nil v) ∙ ap (λ l. v ++ l) (sym (at_drop_all spaced ns i le)) ∙ so

pub joins : (s u w a b : List ℕ) → u ≡ s ++ a → w ≡ u ++ b → w ≡ s ++ (a ++ b)
joins s u w a b first second = second ∙ ap (λ l. l ++ b) first ∙ append_assoc s a b

pub fine_from : {E : Type 0} (r : Result (Unit {0}) E) (v a b : List ℕ) → v ≡ cond (is_ok r) a b → IfOk r (λ _. v ≡ a)
fine_from (Ok x) v a b e = e
fine_from (Err x) v a b e = tt
