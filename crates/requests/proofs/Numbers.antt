-- A number of at most three digits. Assumes nothing.
use Rattle.std.proofs.Common.{◌≡◌, ℕ, ◌^◌, ◌<◌, ◌≤◌, cond, ◌&&◌, leb, List, length, None, sym, ap, ◌∙◌, zero-lt-suc, arith}
use native.Mathlib.Nat.{pow-le-pow_right}
use Rattle.std.proofs.lemmas.Bool.{le-leb, lt-leb, and_right, cond-false}
use Rattle.text.specs.Decimal.{digits_on, number_of as anyNumber}
use Rattle.requests.specs.Form.{number_of}

pub number_few : (text : List ℕ) → length text ≤ 3 → anyNumber text ≡ number_of text
number_few text h =
    ap (λ b. cond (leb 1 (length text) && b) (digits_on 0 text) None) (le-leb (length text) 10 (omega arith) ∙ sym (le-leb (length text) 3 h))

pub number_many : (text : List ℕ) → 3 < length text → None ≡ number_of text
number_many text h = sym (cond-false _ (digits_on 0 text) None (and_right _ _ (lt-leb (length text) 3 h)))

pub number_small : (n digits : ℕ) → n < 10 ^ digits → digits ≤ 3 → n < 1000
number_small n digits h le = let most : 10 ^ digits ≤ 10 ^ 3 = pow-le-pow_right (zero-lt-suc 9) le in omega arith
