use Rattle.std.proofs.Common.{◌≡◌, ◌≤◌, length, vec_items, vec_len, vec_capacity}
use Rattle.history.proofs.Whole.{Logged-so-far}
use Rattle.history.proofs.log_all.Given as goal

abbrev pub invariant-loop-call : goal.invariant-loop-call
invariant-loop-call g l =
    (vec_len l.steps ≡ l.call-index)
    × (length l.calls ≤ vec_capacity l.steps)
    × (l.call-index ≤ length l.calls)
    × Logged-so-far g.H.Hash.next g.A.Algorithm.face g.H.Hash.reading g.H.Hash.meaning.added l.t l.address l.initial.replay.node.hash l.replay.node l.calls l.call-index l.start (vec_items l.steps)
