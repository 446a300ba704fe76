use Rattle.std.proofs.Common.{◌/◌, ◌<◌, length, ap, ◌∙◌, arith}
use Rattle.hash.proofs.Chain.{chained_more, chunk_is}
use Rattle.hash.proofs.Turns.{after_more}
use Rattle.hash.proofs.fold_blocks.Goals as goal

pub loop-block-preserved : goal.loop-block-preserved
loop-block-preserved g c =
    let s = c.loop-block in
    let next = g.H.Hash.next in
    let bytes = c.args.bytes.now in
    let inside : s.block-index < length bytes / 64 = omega (arith, c.as_chunks.ensures.front_len, c.loop-block-test.true) in (
      c.round.ensures.chain ∙ chained_more g.H.Hash.meaning c.args.chain.now c.args.added.now bytes s.chain _ s.block-index s.invariant.0
          (chunk_is 64 (length bytes / 64) s.block-index bytes _ c.as_chunks.result.0.now c.as_chunks.ensures.front inside),
      c.round.ensures.meter ∙ ap next s.invariant.1 ∙ after_more next c.args.hash.now s.block-index,
    )
