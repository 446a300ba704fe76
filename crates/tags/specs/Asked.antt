-- What an algorithm over a hash is asked before it makes a tag, and the answer. Assumes nothing.
use Rattle.std.specs.Prelude.{◌≡◌, ℕ, ◌+◌, ◌≤◌, not, ◌&&◌, List, [], ◌∷◌, ◌++◌, length, drop, Some, None, Ok, Err, Option, Result, ◌==◌, nat_le}
use Rattle.refusals.specs.declared.Refusal.{Refusal}
use Rattle.refusals.specs.declared.Refusal.TheVariants.{NoAddedWords, KeyLength, TagLength, MessageLength, Room}
use Rattle.refusals.specs.Questions.{Question, asks, first_refusal}
use Rattle.mac.specs.Face.{Face, within}

-- of a hash with so many added words, a tag of t bytes, a key of k and a message of n, and the room
abbrev pub questions : Face → ℕ → ℕ → ℕ → ℕ → ℕ → List Question
questions f added t k n room =
    asks (not (f.needs && added == 0)) NoAddedWords ∷
    asks (within f.row.key k) KeyLength ∷
    asks (within f.row.tag t) TagLength ∷
    asks (nat_le n f.row.message) MessageLength ∷
    asks (nat_le t room) Room ∷ []

-- the rounds, where nothing was refused
abbrev pub unless_refused : Option Refusal → ℕ → Result ℕ Refusal
unless_refused None rounds = Ok rounds
unless_refused (Some e) rounds = Err e

unfoldable pub asked : Face → ℕ → ℕ → ℕ → ℕ → ℕ → Result ℕ Refusal
asked f added t k n room = unless_refused (first_refusal (questions f added t k n room)) (f.setup + f.whole n)

-- the place to write afterwards
abbrev pub written : Result ℕ Refusal → List ℕ → ℕ → List ℕ → List ℕ
written (Ok rounds) tag t out = tag ++ drop t out
written (Err e) tag t out = out

-- a tag that was written has t bytes, for which there was room
abbrev pub Long : Result ℕ Refusal → List ℕ → ℕ → ℕ → Type 0
Long (Ok rounds) tag t room = (length tag ≡ t) × (t ≤ room)
Long (Err e) tag t room = Unit {0}
