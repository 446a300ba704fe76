use Rattle.std.proofs.Common.{take, vec_items}
use Rattle.std.specs.List.{flat_map}
use Rattle.requests.specs.Stands.{Fed}
use Rattle.requests.proofs.feed_all.Given as goal

abbrev pub invariant-loop-chunk : goal.invariant-loop-chunk
invariant-loop-chunk l =
    Fed l.initial.lines (vec_items l.initial.out) (flat_map (λ c. c.now) (take l.chunk-index l.chunks)) l.lines (vec_items l.out)
