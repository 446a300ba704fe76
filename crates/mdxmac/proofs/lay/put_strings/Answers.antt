use Rattle.std.proofs.Common.{◌≡◌, ◌+◌, ◌%◌, length, ap, ◌∙◌, arith, rules}
use Rattle.mdxmac.specs.Bytes.{put}
use Rattle.mdxmac.specs.Put.{three_put}
use Rattle.mdxmac.proofs.lay.put_strings.Goals as goal

pub returns : goal.returns
returns g c =
    let m = g.H.Hash.meaning in
    let i = c.args.i in
    let at = c.args.at in
    let h = g.met.H.Hash.strings_long in
    let size : length c.args.block.now ≡ 64 = search rules in
    three_put c.args.block.now c.put_bytes.new.block c.put_bytes-2.new.block c.put_bytes-3.new.block (m.strings (i % 3)) (m.strings ((i + 1) % 3)) (m.strings ((i + 2) % 3)) at
    c.requires.place size (h (i % 3) (omega arith)) (h ((i + 1) % 3) (omega arith)) (h ((i + 2) % 3) (omega arith))
    (c.put_bytes.ensures ∙ ap (λ xs. put at xs c.args.block.now) c.string.ensures)
    (c.put_bytes-2.ensures ∙ ap (λ xs. put (at + 16) xs c.put_bytes.new.block) c.string-2.ensures)
    (c.put_bytes-3.ensures ∙ ap (λ xs. put (at + 32) xs c.put_bytes-2.new.block) c.string-3.ensures)
