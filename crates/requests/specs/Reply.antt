-- What is replied to a line: the tag and the rounds, the number of the refusal, or `?`. Assumes nothing.
use Rattle.std.specs.Prelude.{ℕ, List, [], ◌∷◌, ◌++◌, length, Some, None, Ok, Err, decimal, Option, Result}
use Rattle.refusals.specs.Numbers.{number}
use Rattle.refusals.specs.declared.Refusal.{Refusal}
use Rattle.text.specs.Hex.{hex_of}
use Rattle.tags.specs.Tag.{answered, tag_of}
use Rattle.requests.specs.Form.{Asked, request_of}

-- the tag, a space and the rounds, or `no`, a space and the refusal's number
abbrev pub said_of : Result ℕ Refusal → List ℕ → List ℕ
said_of (Ok rounds) tag = hex_of tag ++ (32 ∷ decimal rounds)
said_of (Err refusal) tag = 110 ∷ 111 ∷ 32 ∷ decimal (number refusal)

-- the tag is made in a place of 32 bytes
unfoldable pub answer_to : Asked → List ℕ
answer_to q =
    said_of (answered q.algorithm q.hash q.t (length q.key) (length q.message) 32)
    (tag_of q.algorithm q.hash q.t q.key q.message)

-- `?` where the line asks for nothing
abbrev pub said : Option Asked → List ℕ
said None = 63 ∷ []
said (Some q) = answer_to q

-- the reply to a line, with its newline: `?` to a line of more than 1,024 bytes
abbrev pub reply : List ℕ → List ℕ
reply line = said (request_of line) ++ 10 ∷ []
