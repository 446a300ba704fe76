use Rattle.std.proofs.Common.{◌≡◌, length, arith, rules}
use Rattle.mdxmac.specs.Put.{laid_last}
use Rattle.mdxmac.proofs.lay.lay_last.Goals as goal

pub returns : goal.returns
returns g c =
    let m = g.H.Hash.meaning in
    let h = g.met.H.Hash.strings_long in
    let size : length c.args.block.now ≡ 64 = search rules in
    let sizeK : length c.args.bytes.now ≡ 16 = search rules in
    laid_last c.args.block.now c.put_bytes.new.block c.put_strings.new.block c.mix_bytes.new.block c.mix_bytes-2.new.block c.mix_bytes-3.new.block
    c.args.bytes.now (m.strings 0) (m.strings 1) (m.strings 2) size sizeK (h 0 (omega arith)) (h 1 (omega arith)) (h 2 (omega arith))
    c.put_bytes.ensures c.put_strings.ensures c.mix_bytes.ensures c.mix_bytes-2.ensures c.mix_bytes-3.ensures
