use Rattle.std.proofs.Common.{◌≡◌, ◌<◌, ◌≤◌, length, sym, arith, rules}
use Rattle.mdxmac.specs.Mdx.{K'}
use Rattle.mdxmac.specs.Put.{put_nothing, put_step, put_end, length-K', slice_index-K'}
use Rattle.mdxmac.proofs.lay.put_key.Goals as goal

pub returns-then-is_empty : goal.returns-then-is_empty
returns-then-is_empty c =
    let none : length c.args.key.now ≡ 0 = search (rules, arith) in
    put_nothing c.args.block.now c.args.key.now c.args.at none (omega arith)

pub loop-i-preserved : goal.loop-i-preserved
loop-i-preserved c =
    let key = c.args.key.now in
    let i = c.loop-i.i in
    let low : i < 16 = omega arith in
    let some : 1 ≤ length key = search (rules, arith) in
    let long : length (K' key) ≡ 16 = length-K' key some in
    put_step c.args.block.now c.loop-i.block (K' key) c.args.at i _ c.loop-i.invariant (sym (slice_index-K' key i some low)) (omega arith) (omega arith)

pub returns : goal.returns
returns c =
    let some : 1 ≤ length c.args.key.now = search (rules, arith) in
    let long : length (K' c.args.key.now) ≡ 16 = length-K' c.args.key.now some in
    put_end c.args.block.now c.loop-i.block (K' c.args.key.now) c.args.at c.loop-i.i c.loop-i.invariant (omega arith)
