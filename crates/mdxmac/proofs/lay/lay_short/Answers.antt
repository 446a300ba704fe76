use Rattle.std.proofs.Common.{◌≡◌, length, take, ap, ◌∙◌, arith, length-take, rules}
use Rattle.mdxmac.specs.Bytes.{put}
use Rattle.mdxmac.proofs.Brief.{short_laid}
use Rattle.mdxmac.proofs.lay.lay_short.Goals as goal

pub returns : goal.returns
returns c =
    let n = c.args.n in
    let held = c.args.held.now in
    let size : length c.args.block.now ≡ 64 = search rules in
    let sizeH : length held ≡ 64 = search rules in
    let sizeK : length c.args.bytes.now ≡ 16 = search rules in
    let le = c.requires in
    let lm : length (take n held) ≡ n = simp length-take (omega arith) in
    short_laid c.args.block.now c.put_bytes.new.block c.put_message.new.block c.put_bytes-2.new.block c.mix_bytes.new.block c.args.bytes.now (take n held) n size sizeK lm le
    c.put_bytes.ensures c.put_message.ensures (c.put_bytes-2.ensures ∙ ap (λ xs. put 48 xs c.put_message.new.block) c.length_bytes.ensures) c.mix_bytes.ensures
