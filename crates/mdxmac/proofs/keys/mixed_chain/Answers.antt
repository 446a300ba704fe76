use Rattle.std.proofs.Common.{◌≡◌, length, arith, rules}
use Rattle.mdxmac.specs.Mdx.{K', three}
use Rattle.mdxmac.specs.Put.{two_put, length-K'}
use Rattle.mdxmac.specs.Mixing.{mixed_is, length_three}
use Rattle.mdxmac.proofs.keys.mixed_chain.Goals as goal

pub returns-clause-chain : goal.returns-clause-chain
returns-clause-chain g c =
    let m = g.H.Hash.meaning in
    let i = c.args.i in
    let key = c.args.key.now in
    let h = g.met.H.Hash.strings_long in
    let size : length c.args.block.now ≡ 64 = search rules in
    let size2 : length c.put_strings.new.block ≡ 64 = search rules in
    let lt = length_three m h i in
    λ some.
    let lk = length-K' key some in
    mixed_is m h key c.first_chain.result c.put_strings.new.block c.put_key-2.new.block c.plain_round.new.chain c.plain_round-2.new.chain i some c.first_chain.ensures
    (two_put c.args.block.now c.put_key.new.block c.put_strings.new.block (K' key) (three m i) 16 size (omega arith) (omega arith) c.put_key.ensures c.put_strings.ensures)
    (two_put c.put_strings.new.block c.put_strings-2.new.block c.put_key-2.new.block (three m i) (K' key) 48 size2 (omega arith) (omega arith) c.put_strings-2.ensures c.put_key-2.ensures)
    c.plain_round.ensures.chain c.plain_round-2.ensures.chain
