use Rattle.std.proofs.Common.{◌≡◌, ◌<◌, length, take, drop, arith}
use Rattle.mdxmac.specs.Bytes.{both}
use Rattle.mdxmac.specs.Put.{put_step, put_end, mix_byte, mix_sized}
use Rattle.mdxmac.proofs.lay.mix_bytes.Goals as goal

pub loop-i-preserved : goal.loop-i-preserved
loop-i-preserved c =
    let b0 = c.args.block.now in
    let with = c.args.with.now in
    let at = c.args.at in
    let i = c.loop-i.i in
    let low : i < 16 = omega arith in
    let size : length b0 ≡ 64 = omega arith in
    let sizeW : length with ≡ 16 = omega arith in
    let long = mix_sized b0 with at size sizeW c.requires in
    put_step b0 c.loop-i.block (both (take 16 (drop at b0)) with) at i _ c.loop-i.invariant (mix_byte b0 c.loop-i.block with at i 0 size sizeW c.requires low c.loop-i.invariant) (omega arith) (omega arith)

pub returns : goal.returns
returns c =
    let b0 = c.args.block.now in
    let with = c.args.with.now in
    let size : length b0 ≡ 64 = omega arith in
    let sizeW : length with ≡ 16 = omega arith in
    let long = mix_sized b0 with c.args.at size sizeW c.requires in
    put_end b0 c.loop-i.block (both (take 16 (drop c.args.at b0)) with) c.args.at c.loop-i.i c.loop-i.invariant (omega arith)
