-- The code of a message by the number of the hash, and the tag that a row asks for. Assumes nothing.
use Rattle.std.specs.Prelude.{ℕ, List, [], Some, None, Option, vec_items}
use Rattle.hash.specs.Meaning.{hashed}
use Rattle.tags.specs.declared.HashKind.{HashKind}
use Rattle.tags.specs.Kinds.{hash_by, meaning_of}
use Rattle.tags.specs.Tag.{tag_of}
use Rattle.vectors.specs.declared.rows.Request.{Request}

abbrev pub code_by : Option HashKind → List ℕ → List ℕ
code_by None message = []
code_by (Some h) message = hashed (meaning_of h) message

abbrev pub code_of : ℕ → List ℕ → List ℕ
code_of hash message = code_by (hash_by hash) message

abbrev pub tag_asked : Request → List ℕ
tag_asked q = tag_of q.algorithm q.hash q.t (vec_items q.key) (vec_items q.message)
