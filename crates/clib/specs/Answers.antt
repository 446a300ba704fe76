-- What the exported functions answer by a number, and what they leave in the places lent to them. Assumes nothing.
use Rattle.std.specs.Prelude.{ℕ, ◌*◌, cond, List, ◌++◌, length, drop, Some, None, Ok, Err, Option, Result, nat_le}
use Rattle.refusals.specs.declared.Refusal.{Refusal}
use Rattle.refusals.specs.declared.Refusal.TheVariants.{Unknown, Room}
use Rattle.refusals.specs.Numbers.{number}
use Rattle.hash.specs.Meaning.{Meaning, hashed}
use Rattle.tags.specs.declared.HashKind.{HashKind}
use Rattle.tags.specs.Kinds.{meaning_of}

-- 0, or the number of the refusal
abbrev pub status : {X : Type 0} → Result X Refusal → ℕ
status (Ok x) = 0
status (Err e) = number e

-- where rounds are counted: a refusal leaves what stood there
abbrev pub counted : Result ℕ Refusal → ℕ → ℕ
counted (Ok rounds) was = rounds
counted (Err e) was = was

-- is there room for the hash?
abbrev pub hash_status : Meaning → ℕ → ℕ
hash_status m room = cond (nat_le (4 * m.words) room) 0 (number Room)

abbrev pub hash_put : Meaning → List ℕ → List ℕ → List ℕ
hash_put m message out = cond (nat_le (4 * m.words) (length out)) (hashed m message ++ drop (4 * m.words) out) out

-- is there such a hash, and room for it?
abbrev pub hash_status_by : Option HashKind → ℕ → ℕ
hash_status_by None room = number Unknown
hash_status_by (Some h) room = hash_status (meaning_of h) room

abbrev pub hash_put_by : Option HashKind → List ℕ → List ℕ → List ℕ
hash_put_by None message out = out
hash_put_by (Some h) message out = hash_put (meaning_of h) message out
