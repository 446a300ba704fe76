use Rattle.std.proofs.Common.{[], vec_items, subst}
use Rattle.std.specs.List.{flat_map}
use Rattle.std.proofs.lemmas.List.{take_all}
use Rattle.requests.specs.Stands.{Fed}
use Rattle.requests.proofs.Feeding.{fed_chunk}
use Rattle.requests.proofs.feed_all.Goals as goal

pub loop-chunk-preserved : goal.loop-chunk-preserved
loop-chunk-preserved c =
    fed_chunk c.args.lines.now c.loop-chunk.lines c.feed.new.self (vec_items c.args.out.now) (vec_items c.loop-chunk.out) (vec_items c.feed.new.out) c.args.chunks.now c.loop-chunk.chunk-index _ c.loop-chunk-test.true c.loop-chunk.invariant c.in_ok-feed.ensures

pub returns : goal.returns
returns c =
    subst (λ cs. Fed c.args.lines.now (vec_items c.args.out.now) (flat_map (λ c. c.now) cs) c.loop-chunk.lines (vec_items c.loop-chunk.out)) (take_all c.loop-chunk.chunk-index c.args.chunks.now c.loop-chunk-test.false) c.loop-chunk.invariant [] c.requires
