use Rattle.std.proofs.Common.{◌≡◌}
use Rattle.hash.specs.Meaning.{chained}
use Rattle.hash.specs.Meter.{after}
use Rattle.hash.proofs.fold_blocks.Given as goal

abbrev pub invariant-loop-block : goal.invariant-loop-block
invariant-loop-block g l =
    let h = g.H.Hash in
    (l.chain ≡ chained h.meaning l.initial.chain l.added l.bytes l.block-index) × (l.hash ≡ after h.next l.initial.hash l.block-index)
