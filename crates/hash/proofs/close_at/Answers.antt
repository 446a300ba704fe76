use Rattle.std.proofs.Common.{◌≡◌, ℕ, ◌*◌, ◌%◌, ◌^◌, List, ◌++◌, length, take, refl, ap, ◌∙◌, mul_comm, rules}
use Rattle.hash.specs.Meaning.{eight, step}
use Rattle.hash.proofs.Close.{close_one, close_two, block_one, block_two, turns_one, turns_two, eight_wraps}
use Rattle.hash.proofs.close_at.Goals as goal
use Rattle.hash.proofs.close_at.Goals.{then-at-ge56, else-at-ge56}

pub returns : goal.returns
returns g c =
    let size : length c.args.block.now ≡ 64 = search rules in
    let m = g.H.Hash.meaning in
    let block = c.args.block.now in
    let at = c.args.at in
    let total = c.args.total in
    let next = g.H.Hash.next in
    let E = c.u64_to_bytes-bits.result in
    let wraps : E ≡ eight m.order ((total * 8) % 2 ^ 64) = c.u64_to_bytes-bits.ensures ∙ ap (λ o. eight o ((total * 8) % 2 ^ 64)) c.shape_of.ensures.2 in
    let isE : E ≡ eight m.order (8 * total) = wraps ∙ eight_wraps m.order (total * 8) ∙ ap (eight m.order) (mul_comm total 8) in
    let end = c.round-2.ensures in
    let M = c.mark.new.block in
    let Z = c.if-at-ge56.block in
    let B = c.write_bits.new.block in
    elim c.if-at-ge56.branch [
      | then-at-ge56 w ↦
          (let isZ = w.block-is ∙ w.fill.ensures.after (λ y e. e) in
          record {
            chain = close_two m c.args.chain.now c.args.added.now block at total size c.requires.within c.requires.place
                M Z B E 56 (length M) refl c.mark.array_long w.if-at-ge56.true c.mark.ensures isZ c.write_bits.ensures isE
                c.if-at-ge56.chain c.round-2.new.chain (w.chain-is ∙ w.round.ensures.chain) end.chain;
            block = block_two m c.args.chain.now c.args.added.now block at total size c.requires.within c.requires.place
                M Z B E 56 (length M) refl c.mark.array_long w.if-at-ge56.true c.mark.ensures isZ c.write_bits.ensures isE;
            meter = turns_two next c.args.hash.now c.if-at-ge56.hash _ at w.if-at-ge56.true c.requires.within (w.hash-is ∙ w.round.ensures.meter) end.meter;
          })
      | else-at-ge56 w ↦
          (let is_b = c.write_bits.ensures ∙ ap (λ (xs : List ℕ). take 56 xs ++ E) w.block-is in
          record {
            chain = close_one m c.args.chain.now c.args.added.now block at total size c.requires.within c.requires.place
                M B E 56 refl w.if-at-ge56.false c.mark.ensures is_b isE
                c.round-2.new.chain (end.chain ∙ ap (λ (s : List ℕ). step m s c.args.added.now B) w.chain-is);
            block = block_one m c.args.chain.now c.args.added.now block at total size c.requires.within c.requires.place
                M B E 56 refl w.if-at-ge56.false c.mark.ensures is_b isE;
            meter = turns_one next c.args.hash.now c.if-at-ge56.hash _ at w.if-at-ge56.false w.hash-is end.meter;
          })
    ]
