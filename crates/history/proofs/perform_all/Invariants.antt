use Rattle.std.proofs.Common.{◌≡◌, ◌≤◌, length, vec_items, vec_len, vec_capacity}
use Rattle.history.proofs.Whole.{Ran-so-far}
use Rattle.history.proofs.perform_all.Given as goal

abbrev pub invariant-loop-call : goal.invariant-loop-call
invariant-loop-call g l =
    (vec_len l.answers ≡ l.call-index)
    × (length l.calls ≤ vec_capacity l.answers)
    × (l.call-index ≤ length l.calls)
    × Ran-so-far g.H.Hash.next g.A.Algorithm.face g.H.Hash.meaning.added l.t l.address l.initial.replay.node.hash l.replay.node l.calls l.call-index (vec_items l.answers)
