-- What it says that a place begins with some bytes. Assumes nothing.
use Rattle.std.proofs.Common.{◌≡◌, ℕ, Bool, true, eqb, List, ◌++◌, length, drop, ap, ◌∙◌}
use Rattle.std.specs.List.{starts_with}
use Rattle.std.proofs.lemmas.Bool.Decides.{Decides-eqb}
use Rattle.std.proofs.lemmas.Slice.Eq.{starts_is}

pub begun : (place bytes : List ℕ) (n : ℕ) (r : Bool) → r ≡ starts_with eqb place bytes → length bytes ≡ n → r ≡ true → (length bytes ≡ n) × (place ≡ bytes ++ drop n place)
begun place bytes n r value long same =
    (long, (starts_is Decides-eqb place bytes r value).0 same ∙ ap (λ (i : ℕ). bytes ++ drop i place) long)
