-- What it is to close a run and compare its tag. Assumes nothing.
use Rattle.std.specs.Prelude.{◌≡◌, ℕ, ◌-◌, Bool, true, List, length, bit_or, bit_xor}
use Rattle.std.specs.List.{fold, zip}
use Rattle.std.specs.Str.{bytes_eq}
use Rattle.hash.specs.Meter.{after}
use Rattle.mac.specs.Face.{Face, within}
use Rattle.mac.specs.declared.Run.{Run}

-- the bits in which bytes differ from those beside them
abbrev pub differences : List ℕ → List ℕ → ℕ
differences xs ys = fold (λ bits p. bit_or bits (bit_xor p.0 p.1)) 0 (zip xs ys)

abbrev pub Compared : {H : Type 0} → (H → H) → Face → H → H → Run → ℕ → List ℕ → Bool → Type 0
Compared next f h0 h1 run t given r =
    (k b : List ℕ) → f.RunStands run k b → within f.row.tag t ≡ true → length given ≡ t →
    (r ≡ bytes_eq given (f.tag k b t)) × (h1 ≡ after next h0 (f.whole (length b) - f.held (length b)))
