-- The pieces of a text that goes on. Assumes nothing.
use Rattle.std.proofs.Common.{◌≡◌, ℕ, ◌<◌, ◌≤◌, Bool, true, false, cond, eqb, List, [], ◌∷◌, ◌++◌, length, sym, refl, ap, ◌∙◌, ⊎_elim, arith}
use Rattle.std.specs.List.{All, after_first, onto_first, position_or_len}
use Rattle.std.proofs.lemmas.Bool.{eq-eqb, ne_eqb, cond-false, cases_lt}
use Rattle.std.proofs.lemmas.List.Elements.{All-push}
use Rattle.std.proofs.lemmas.List.Splits.{slice_split_none, slice_split_at, slice_split_first, length-slice_split}
use Rattle.std.proofs.lemmas.List.Sums.{fails_before_first}
use Rattle.text.specs.Pieces.{pieces}
use Rattle.requests.specs.Input.{fronts, final}

pub pieces_some : (c : ℕ) (text : List ℕ) → 0 < length (pieces c text)
pieces_some c text = omega (arith, length-slice_split (λ b. eqb b c) text)

-- a text of one piece has no byte that parts it
whole : (c : ℕ) (xs : List ℕ) → pieces c xs ≡ xs ∷ [] → All (λ b. eqb b c ≡ false) xs
whole c xs one k d lt =
    let parts = λ (b : ℕ). eqb b c in
    let none : length xs ≤ position_or_len parts xs =
    ⊎_elim
    (λ h. absurd (omega (arith, ap length one, ap length (slice_split_first parts xs 0 h), length-slice_split parts (after_first parts xs))))
    (λ h. h)
    (cases_lt (position_or_len parts xs) (length xs))
    in
    fails_before_first parts xs k d (omega arith)

-- one piece, and a byte that breaks it or does not
pub one_broken : (c : ℕ) (xs : List ℕ) → pieces c xs ≡ xs ∷ [] → pieces c (xs ++ c ∷ []) ≡ xs ∷ [] ∷ []
one_broken c xs one = slice_split_at (λ b. eqb b c) xs c [] (whole c xs one) (eq-eqb c c refl)

pub one_grown : (c : ℕ) (xs : List ℕ) (b : ℕ) → (b ≡ c → ⊥) → pieces c xs ≡ xs ∷ [] → pieces c (xs ++ b ∷ []) ≡ (xs ++ b ∷ []) ∷ []
one_grown c xs b ne one = slice_split_none (λ x. eqb x c) (xs ++ b ∷ []) (All-push (λ x. eqb x c ≡ false) xs b (whole c xs one) (ne_eqb b c ne))

-- the pieces of x and a text, by those of the text
abbrev led : Bool → ℕ → List (List ℕ) → List (List ℕ)
led v x ps = cond v ([] ∷ ps) (onto_first x ps)

-- the last piece goes on
led_append : (v : Bool) (c x : ℕ) (ps : List (List ℕ)) (ys : List ℕ) → eqb x c ≡ v → 0 < length ps → led v x (fronts ps ++ pieces c (final ps ++ ys)) ≡ fronts (led v x ps) ++ pieces c (final (led v x ps) ++ ys)
led_append v c x [] ys e h = absurd (omega arith)
led_append true c x (p ∷ ps) ys e h = refl
led_append false c x (p ∷ []) ys e h = sym (cond-false _ _ _ e)
led_append false c x (p ∷ q ∷ ps) ys e h = refl

pub pieces_append : (c : ℕ) (xs ys : List ℕ) → pieces c (xs ++ ys) ≡ fronts (pieces c xs) ++ pieces c (final (pieces c xs) ++ ys)
pieces_append c [] ys = refl
pieces_append c (x ∷ xs) ys = ap (led (eqb x c) x) (pieces_append c xs ys) ∙ led_append (eqb x c) c x (pieces c xs) ys refl (pieces_some c xs)

-- what two lists of pieces come to, one after the other
pub fronts_append : (ps qs : List (List ℕ)) → 0 < length qs → fronts (ps ++ qs) ≡ ps ++ fronts qs
fronts_append [] qs h = refl
fronts_append (p ∷ []) [] h = absurd (omega arith)
fronts_append (p ∷ []) (q ∷ qs) h = refl
fronts_append (p ∷ r ∷ ps) qs h = ap (λ l. p ∷ l) (fronts_append (r ∷ ps) qs h)

pub final_append : (ps qs : List (List ℕ)) → 0 < length qs → final (ps ++ qs) ≡ final qs
final_append [] qs h = refl
final_append (p ∷ []) [] h = absurd (omega arith)
final_append (p ∷ []) (q ∷ qs) h = refl
final_append (p ∷ r ∷ ps) qs h = final_append (r ∷ ps) qs h
