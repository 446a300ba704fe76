-- A verb by its name. Assumes nothing.
use Rattle.std.proofs.Common.{◌≡◌, ℕ, ◌+◌, ◌<◌, ◌≤◌, Bool, true, false, cond, List, length, get_or, drop, Some, None, Decides, sym, refl, ap, ◌∙◌, subst}
use Rattle.std.specs.Str.{bytes_eq}
use Rattle.std.proofs.lemmas.Slice.Eq.{bytes_eq-Decides}
use Rattle.std.proofs.lemmas.List.{at_drop_more, at_drop_all}
use Rattle.std.proofs.lemmas.Bool.{cond-true, cond-false}
use Rattle.scripts.specs.declared.verb.Verb.{Verb}
use Rattle.scripts.specs.Form.{name_of, verb_in}

same_test : (r s : Bool) (P : Type 0) → Decides r P → Decides s P → r ≡ s
same_test true true P d e = refl
same_test true false P d e = sym (e.1 (d.0 refl))
same_test false true P d e = d.1 (e.0 refl)
same_test false false P d e = refl

module _ (vs : List Verb) (word : List ℕ) (i : ℕ) (d : Verb) (name : List ℕ) (r : Bool) (lt : i < length vs) (is : name ≡ name_of (get_or vs i d)) (test : Decides r (word ≡ name)) where
  step : verb_in (drop i vs) word ≡ cond r (Some (get_or vs i d)) (verb_in (drop (i + 1) vs) word)
  step =
      at_drop_more (λ l. verb_in l word) vs i d lt
      ∙ ap (λ b. cond b (Some (get_or vs i d)) (verb_in (drop (i + 1) vs) word)) (same_test _ r (word ≡ name) (subst (λ n. Decides (bytes_eq word n) (word ≡ name)) is (bytes_eq-Decides word name)) test)

  pub name_found : r ≡ true → verb_in (drop i vs) word ≡ verb_in vs word → Some (get_or vs i d) ≡ verb_in vs word
  name_found e so = sym (cond-true r (Some (get_or vs i d)) (verb_in (drop (i + 1) vs) word) e) ∙ sym step ∙ so

  pub name_more : r ≡ false → verb_in (drop i vs) word ≡ verb_in vs word → verb_in (drop (i + 1) vs) word ≡ verb_in vs word
  name_more e so = sym (cond-false r (Some (get_or vs i d)) (verb_in (drop (i + 1) vs) word) e) ∙ sym step ∙ so

pub name_none : (vs : List Verb) (word : List ℕ) (i : ℕ) → length vs ≤ i → verb_in (drop i vs) word ≡ verb_in vs word → None ≡ verb_in vs word
name_none vs word i le so = sym (at_drop_all (λ l. verb_in l word) vs i le) ∙ so
