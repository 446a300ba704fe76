-- What a line asks for, by its five fields. Assumes nothing.
use Rattle.std.proofs.Common.{◌≡◌, ℕ, ◌≤◌, List, [], ◌∷◌, length, None, sym, ap, ◌∙◌, arith, length-append}
use Rattle.std.specs.List.{join_with_byte}
use Rattle.std.proofs.lemmas.Bool.{ne_eqb, cond-false}
use Rattle.std.proofs.lemmas.List.Splits.{join_with_byte-slice_split}
use Rattle.text.specs.Hex.{bytes_of}
use Rattle.text.specs.Pieces.{pieces}
use Rattle.requests.specs.Form.{number_of, asked_by, asked_in, asked_of}

-- five fields, and no other piece
abbrev pub Five : List ℕ → List ℕ → List ℕ → List ℕ → List ℕ → List ℕ → Type 0
Five line a h t k m = pieces 32 line ≡ a ∷ h ∷ t ∷ k ∷ m ∷ []

pub asked_five : (line a h t k m : List ℕ) → Five line a h t k m → asked_by (number_of a) (number_of h) (number_of t) (bytes_of k) (bytes_of m) ≡ asked_of line
unfolding asked_of
asked_five line a h t k m five = ap asked_in (sym five)

pub asked_not : (line : List ℕ) → (length (pieces 32 line) ≡ 5 → ⊥) → None ≡ asked_of line
unfolding asked_of
asked_not line ne = sym (cond-false _ _ _ (ne_eqb (length (pieces 32 line)) 5 ne))

-- no field is longer than the line
pub fields_short : (line a h t k m : List ℕ) → Five line a h t k m → (length k ≤ length line) × (length m ≤ length line)
fields_short line a h t k m five =
    let whole : length (join_with_byte 32 (a ∷ h ∷ t ∷ k ∷ m ∷ [])) ≡ length line = ap (λ ps. length (join_with_byte 32 ps)) (sym five) ∙ ap length (join_with_byte-slice_split 32 line) in
    let h = simp (length-append) at whole in
    (omega (arith, h), omega (arith, h))
