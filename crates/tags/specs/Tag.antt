-- The one-shot call: a tag by the numbers of algorithm and hash. Assumes nothing.
use Rattle.std.specs.Prelude.{ℕ, List, [], Some, None, Err, Option, Result}
use Rattle.refusals.specs.declared.Refusal.{Refusal}
use Rattle.refusals.specs.declared.Refusal.TheVariants.{Unknown}
use Rattle.tags.specs.declared.HashKind.{HashKind}
use Rattle.tags.specs.declared.AlgorithmKind.{AlgorithmKind}
use Rattle.tags.specs.Kinds.{hash_by, algorithm_by, meaning_of, face_of}
use Rattle.tags.specs.Asked.{asked}

-- is there such an algorithm and hash? then its answer to t, the lengths of key and message, and the room
unfoldable pub answered_by : Option AlgorithmKind → Option HashKind → ℕ → ℕ → ℕ → ℕ → Result ℕ Refusal
answered_by None h t k n room = Err Unknown
answered_by (Some a) None t k n room = Err Unknown
answered_by (Some a) (Some h) t k n room = asked (face_of a (meaning_of h)) (meaning_of h).added t k n room

unfoldable pub tag_by : Option AlgorithmKind → Option HashKind → ℕ → List ℕ → List ℕ → List ℕ
tag_by None h t key message = []
tag_by (Some a) None t key message = []
tag_by (Some a) (Some h) t key message = (face_of a (meaning_of h)).tag key message t

-- the rounds, or the first refusal
abbrev pub answered : ℕ → ℕ → ℕ → ℕ → ℕ → ℕ → Result ℕ Refusal
answered algorithm hash t k n room = answered_by (algorithm_by algorithm) (hash_by hash) t k n room

-- the tag of t bytes of a key and a message
abbrev pub tag_of : ℕ → ℕ → ℕ → List ℕ → List ℕ → List ℕ
tag_of algorithm hash t key message = tag_by (algorithm_by algorithm) (hash_by hash) t key message
