use Rattle.std.proofs.Common.{◌≡◌, ℕ, ◌+◌, ◌-◌, ◌*◌, ◌/◌, ◌%◌, ◌<◌, ◌++◌, length, take, drop, sym, refl, ap, ◌∙◌, arith, length-append, rules}
use Rattle.hash.specs.Meaning.{chained}
use Rattle.hash.specs.Meter.{after}
use Rattle.hash.proofs.Gather.{kept_front}
use Rattle.hash.proofs.Join.{join_chain, join_held}
use Rattle.mac.proofs.feed_run.Goals as goal

pub returns : goal.returns
returns g c =
    let m = g.H.Hash.meaning in
    let next = g.H.Hash.next in
    let run = c.args.run.now in
    let piece = c.args.piece.now in
    let p = length piece in
    let k = c.args.added.now in
    let at = run.fed % 64 in
    let low : at < 64 = omega arith in
    let size : length run.held ≡ 64 = search rules in
    record {
      idle = search rules;
      long = search (rules, arith);
      joined = λ start bytes s le.
          let n = length bytes in
          let same : at ≡ n % 64 = ap (λ (i : ℕ). i % 64) s.fed in
          let R = take at run.held in
          let isR : R ≡ drop (64 * (n / 64)) bytes = ap (λ (i : ℕ). take i run.held) same ∙ s.held in
          let j = (at + p) / 64 in
          let all : length (bytes ++ piece) ≡ n + p = length-append bytes piece in
          let blocks : length (bytes ++ piece) / 64 ≡ n / 64 + j = omega (arith, s.fed, all) in
          let place : length (bytes ++ piece) % 64 ≡ (at + p) % 64 = omega (arith, s.fed, all) in
          let left : take ((at + p) % 64) c.absorb.new.held ≡ drop (64 * j) (R ++ piece) = ap (take ((at + p) % 64)) c.absorb.ensures.held ∙ kept_front run.held at piece size low in (
            refl,
            record {
              begun = s.begun;
              fed = ap (λ (i : ℕ). i + p) s.fed ∙ sym all;
              few = omega (arith, all);
              chain = join_chain bytes piece m start k run.chain R c.absorb.new.chain j s.chain isR c.absorb.ensures.chain
                  ∙ ap (λ (i : ℕ). chained m start k (bytes ++ piece) i) (sym blocks);
              held = ap (λ (i : ℕ). take i c.absorb.new.held) place ∙ left ∙ join_held bytes piece R j isR
                  ∙ ap (λ (i : ℕ). drop (64 * i) (bytes ++ piece)) (sym blocks);
            },
            (let number : j ≡ (n + p) / 64 - n / 64 = omega (arith, s.fed) in c.absorb.ensures.meter ∙ ap (after next c.args.hash.now) number),
          );
      refused = search rules;
      turned = search rules;
      kept = search rules;
    }
