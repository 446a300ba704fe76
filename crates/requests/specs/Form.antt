-- The form of a line: five fields with one space between, three numbers of one to three digits and two texts of
-- upper-case hexadecimal pairs. Assumes nothing.
use Rattle.std.specs.Prelude.{ℕ, cond, List, [], length, Some, None, Option, ◌==◌, nat_le, slice_index_or}
use Rattle.text.specs.Decimal.{within, digits_on}
use Rattle.text.specs.Hex.{bytes_of}
use Rattle.text.specs.Pieces.{pieces}

-- one to three digits
abbrev pub number_of : List ℕ → Option ℕ
number_of text = cond (within 1 3 (length text)) (digits_on 0 text) None

-- a request for a tag of t bytes
pub record Asked : Type 0 where
  pub algorithm : ℕ
  pub hash : ℕ
  pub t : ℕ
  pub key : List ℕ
  pub message : List ℕ

abbrev pub asking : ℕ → ℕ → ℕ → List ℕ → List ℕ → Asked
asking a h t k m = record { algorithm = a; hash = h; t = t; key = k; message = m }

-- each of the five is of its form
abbrev pub asked_by : Option ℕ → Option ℕ → Option ℕ → Option (List ℕ) → Option (List ℕ) → Option Asked
asked_by None h t k m = None
asked_by (Some a) None t k m = None
asked_by (Some a) (Some h) None k m = None
asked_by (Some a) (Some h) (Some t) None m = None
asked_by (Some a) (Some h) (Some t) (Some k) None = None
asked_by (Some a) (Some h) (Some t) (Some k) (Some m) = Some (asking a h t k m)

-- algorithm, hash, t, key and message
abbrev pub asked_in : List (List ℕ) → Option Asked
asked_in fields =
    cond (length fields == 5)
    (asked_by (number_of (slice_index_or fields 0 [])) (number_of (slice_index_or fields 1 [])) (number_of (slice_index_or fields 2 [])) (bytes_of (slice_index_or fields 3 [])) (bytes_of (slice_index_or fields 4 [])))
    None

-- what a line asks for, its fields parted by one space each
unfoldable pub asked_of : List ℕ → Option Asked
asked_of line = asked_in (pieces 32 line)

-- a line of more than 1,024 bytes asks for nothing
abbrev pub request_of : List ℕ → Option Asked
request_of line = cond (nat_le (length line) 1024) (asked_of line) None
