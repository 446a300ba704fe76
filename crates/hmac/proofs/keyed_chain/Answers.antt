use Rattle.std.proofs.Common.{◌≡◌, ℕ, List, take, sym, ap, ◌∙◌, arith, length-take}
use Rattle.hash.specs.Meaning.{step, none}
use Rattle.hash.proofs.Close.{one_round}
use Rattle.hmac.specs.Hmac.{xored, filled_key}
use Rattle.hmac.proofs.Keys.{padded_key}
use Rattle.hmac.proofs.keyed_chain.Goals as goal

pub returns-clause-chain : goal.returns-clause-chain
returns-clause-chain g c =
    let m = g.H.Hash.meaning in
    let key = take 64 c.args.key.now in
    let pad = c.args.pad in
    let block = xored pad (filled_key key) in
    let isBlock : c.xor_all.new.block ≡ block = c.xor_all.ensures ∙ ap (xored pad) c.lay_key.ensures in
    c.round.ensures.chain ∙ ap (λ (xs : List ℕ). step m xs none c.xor_all.new.block) c.first_chain.ensures ∙ ap (λ (xs : List ℕ). step m m.first none xs) isBlock
    ∙ sym (one_round m m.first none block (padded_key pad key (let l = length-take 64 c.args.key.now in omega arith)))
