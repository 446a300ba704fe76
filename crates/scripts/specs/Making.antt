-- The making of a node, by the numbers of a node line. Assumes nothing.
use Rattle.std.specs.Prelude.{ℕ, List, Some, None, Option, slice_index}
use Rattle.refusals.specs.Questions.{first_refusal}
use Rattle.refusals.specs.declared.Refusal.{Refusal}
use Rattle.refusals.specs.declared.Refusal.TheVariants.{Unknown}
use Rattle.tags.specs.Kinds.{hash_by, algorithm_by, meaning_of, face_of}
use Rattle.tags.specs.declared.AlgorithmKind.{AlgorithmKind}
use Rattle.tags.specs.declared.HashKind.{HashKind}
use Rattle.node.specs.Asking.{making_q}
use Rattle.scripts.specs.declared.making.Making.{Making}

-- the numbers are those of algorithm, hash, tag length and address; is there such an algorithm and hash?
abbrev pub made_of : Option AlgorithmKind → Option HashKind → ℕ → ℕ → Option Making
made_of None h t own = None
made_of (Some a) None t own = None
made_of (Some a) (Some h) t own = Some record { algorithm = a; hash = h; t = t; address = own }

abbrev pub making_of : List ℕ → Option Making
making_of ns = made_of (algorithm_by (slice_index ns 0)) (hash_by (slice_index ns 1)) (slice_index ns 2) (slice_index ns 3)

-- the first question of a making that is answered no
abbrev pub asked : Making → Option Refusal
asked m = first_refusal (making_q (face_of m.algorithm (meaning_of m.hash)) (meaning_of m.hash).added m.t m.address)

abbrev pub refusal_at_making : Option Making → Option Refusal
refusal_at_making None = Some Unknown
refusal_at_making (Some m) = asked m

-- why the making is refused that a node line asks for, if it is
abbrev pub making : List ℕ → Option Refusal
making ns = refusal_at_making (making_of ns)
