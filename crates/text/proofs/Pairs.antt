-- Pairs of hexadecimal digits, one after the other. Assumes nothing.
use Rattle.std.proofs.Common.{◌≡◌, ℕ, zero, suc, ◌+◌, ◌*◌, ◌/◌, ◌%◌, ◌<◌, ◌≤◌, List, [], ◌∷◌, ◌++◌, length, get_or, take, drop, Some, None, Option, sym, refl, ap, ◌∙◌, append-nil, append_assoc, length-append, min, arith}
use Rattle.std.proofs.lemmas.List.{drop_more, drop_all, take_all}
use Rattle.std.specs.Option.{option_map, option_and_then}
use Rattle.std.specs.Simd.{first_chunks}
use Rattle.text.specs.Hex.{pair_of, with, pairs_of}

-- the bytes of pairs
abbrev pub values : List (List ℕ) → Option (List ℕ)
values [] = Some []
values (p ∷ ps) = with (pair_of (get_or p 0 0) (get_or p 1 0)) (values ps)

values_of : (n : ℕ) (text : List ℕ) → length text ≡ 2 * n → pairs_of text ≡ values (first_chunks 2 n text)
values_of zero [] e = refl
values_of zero (a ∷ rest) e = absurd (omega arith)
values_of (suc n) [] e = absurd (omega arith)
values_of (suc n) (a ∷ []) e = absurd (omega arith)
values_of (suc n) (a ∷ b ∷ rest) e = ap (with (pair_of a b)) (values_of n rest (omega arith))

with_none : (first : Option ℕ) → with first None ≡ None
with_none None = refl
with_none (Some b) = refl

none_of : (n : ℕ) (text : List ℕ) → length text ≡ 2 * n + 1 → pairs_of text ≡ None
none_of n [] e = absurd (omega arith)
none_of n (a ∷ []) e = refl
none_of zero (a ∷ b ∷ rest) e = absurd (omega arith)
none_of (suc n) (a ∷ b ∷ rest) e = ap (with (pair_of a b)) (none_of n rest (omega arith)) ∙ with_none (pair_of a b)

pub pairs_even : (text : List ℕ) (pairs : List (List ℕ)) → pairs ≡ first_chunks 2 (length text / 2) text → length text % 2 ≡ 0 → pairs_of text ≡ values pairs
pairs_even text pairs are e = values_of (length text / 2) text (omega arith) ∙ ap values (sym are)

pub pairs_odd : (text : List ℕ) → length text % 2 ≡ 1 → pairs_of text ≡ None
pairs_odd text e = none_of (length text / 2) text (omega arith)

-- the place has the bytes of the pairs before the i-th
abbrev pub Read : List (List ℕ) → ℕ → List ℕ → Type 0
Read pairs i place = values pairs ≡ option_map (λ bs. take i place ++ bs) (values (drop i pairs))

pub read_not : (pairs : List (List ℕ)) (i : ℕ) (place : List ℕ) → i < length pairs → pair_of (get_or (get_or pairs i []) 0 0) (get_or (get_or pairs i []) 1 0) ≡ None → Read pairs i place → values pairs ≡ None
read_not pairs i place lt e so =
    so ∙ ap (λ ps. option_map (λ bs. take i place ++ bs) (values ps)) (drop_more pairs i [] lt) ∙ ap (λ b. option_map (λ bs. take i place ++ bs) (with b (values (drop (i + 1) pairs)))) e

pub read_all : (pairs : List (List ℕ)) (i : ℕ) (place : List ℕ) → length pairs ≤ i → length place ≤ i → Read pairs i place → values pairs ≡ Some place
read_all pairs i place le all so =
    so ∙ ap (λ ps. option_map (λ bs. take i place ++ bs) (values ps)) (drop_all i pairs le) ∙ ap Some (append-nil (take i place) ∙ take_all i place all)

pub onto_none : (o : Option (List ℕ)) → o ≡ option_map (λ bs. [] ++ bs) o
onto_none None = refl
onto_none (Some bs) = refl

-- the bytes of pairs, and then of others
abbrev joined : Option (List ℕ) → Option (List ℕ) → Option (List ℕ)
joined first rest = option_and_then (λ xs. option_map (λ ys. xs ++ ys) rest) first

with_joined : (b : Option ℕ) (first rest : Option (List ℕ)) → with b (joined first rest) ≡ joined (with b first) rest
with_joined None first rest = refl
with_joined (Some b) None rest = refl
with_joined (Some b) (Some xs) None = refl
with_joined (Some b) (Some xs) (Some ys) = refl

pairs_append : (n : ℕ) (text more : List ℕ) → length text ≡ 2 * n → pairs_of (text ++ more) ≡ joined (pairs_of text) (pairs_of more)
pairs_append zero [] more e = onto_none (pairs_of more)
pairs_append zero (a ∷ rest) more e = absurd (omega arith)
pairs_append (suc n) [] more e = absurd (omega arith)
pairs_append (suc n) (a ∷ []) more e = absurd (omega arith)
pairs_append (suc n) (a ∷ b ∷ rest) more e = ap (with (pair_of a b)) (pairs_append n rest more (omega arith)) ∙ with_joined (pair_of a b) (pairs_of rest) (pairs_of more)

-- xs are the bytes of the pairs before those of the rest
abbrev pub Begun : List ℕ → List ℕ → List ℕ → Type 0
Begun text xs rest = pairs_of text ≡ option_map (λ bs. xs ++ bs) (pairs_of rest)

onto_onto : (xs ys : List ℕ) (o : Option (List ℕ)) → option_map (λ bs. xs ++ bs) (joined (Some ys) o) ≡ option_map (λ bs. (xs ++ ys) ++ bs) o
onto_onto xs ys None = refl
onto_onto xs ys (Some bs) = ap Some (sym (append_assoc xs ys bs))

-- a block of the rest was read: it is of another form, or its bytes follow
module _ (text xs rest block more : List ℕ) (parts : rest ≡ block ++ more) (size : length block ≡ min 128 (length rest)) (whole : length rest % 2 ≡ 0) (so : Begun text xs rest) where
  even : length block % 2 ≡ 0
  even = omega arith

  pub more_even : length more % 2 ≡ 0
  more_even = omega (arith, ap length parts, length-append block more)

  split : pairs_of rest ≡ joined (pairs_of block) (pairs_of more)
  split = ap pairs_of parts ∙ pairs_append (length block / 2) block more (omega arith)

  pub block_not : pairs_of block ≡ None → pairs_of text ≡ None
  block_not e = so ∙ ap (option_map (λ bs. xs ++ bs)) (split ∙ ap (λ o. joined o (pairs_of more)) e)

  pub block_more : (ys : List ℕ) → pairs_of block ≡ Some ys → Begun text (xs ++ ys) more
  block_more ys e = so ∙ ap (option_map (λ bs. xs ++ bs)) (split ∙ ap (λ o. joined o (pairs_of more)) e) ∙ onto_onto xs ys (pairs_of more)

pub blocks_all : (text xs rest : List ℕ) → rest ≡ [] → Begun text xs rest → pairs_of text ≡ Some xs
blocks_all text xs rest e so = so ∙ ap (λ r. option_map (λ bs. xs ++ bs) (pairs_of r)) e ∙ ap Some (append-nil xs)
