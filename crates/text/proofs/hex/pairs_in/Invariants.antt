use Rattle.std.proofs.Common.{◌≡◌, ◌%◌, length, vec_items}
use Rattle.std.specs.Slice.Iter.{chunks_rest, chunks_size}
use Rattle.text.proofs.Pairs.{Begun}
use Rattle.text.proofs.hex.pairs_in.Given as goal

abbrev pub invariant-loop-pairs : goal.invariant-loop-pairs
invariant-loop-pairs l =
    goal.iterator-loop-pairs.can_next l.pairs-iterator
    × goal.iterator-loop-pairs.is_finite l.pairs-iterator
    × (chunks_size l.pairs-iterator ≡ 128)
    × (length (chunks_rest l.pairs-iterator) % 2 ≡ 0)
    × (length l.place ≡ 64)
    × Begun l.text (vec_items l.bytes) (chunks_rest l.pairs-iterator)
