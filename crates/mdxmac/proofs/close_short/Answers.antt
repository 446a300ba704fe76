use Rattle.std.proofs.Common.{◌≡◌, ℕ, ◌*◌, ◌/◌, ◌%◌, length, take, drop, sym, ap, ◌∙◌, arith, rules}
use Rattle.hash.proofs.Turns.{after_one}
use Rattle.mac.proofs.Codes.{tag_first}
use Rattle.mdxmac.specs.Short.{short_face, short_code}
use Rattle.mdxmac.proofs.Brief.{short_closed}
use Rattle.mdxmac.proofs.close_short.Goals as goal

pub returns : goal.returns
returns g c =
    let m = g.H.Hash.meaning in
    let next = g.H.Hash.next in
    let run = c.args.run.now in
    let n = c.min-n.result in
    let sizeK : length run.bytes ≡ 16 = search rules in
    let turns = c.round.ensures.meter ∙ sym (after_one next c.args.hash.now) in
    record {
      long = search rules;
      code = λ key bytes t s fits.
          let le = s.stream.few in
          let isFed = s.stream.fed in
          let same : n ≡ length bytes % 64 = search rules in
          let none : 64 * (length bytes / 64) ≡ 0 = omega arith in
          let message : take n run.held ≡ bytes = ap (λ (i : ℕ). take i run.held) same ∙ s.stream.held ∙ ap (λ (i : ℕ). drop i bytes) none in
          tag_first m (short_face m).row.tag c.write_code.new.block (short_code m key bytes) t (omega arith) fits
          (short_closed m key bytes run.chain run.second run.bytes (take n run.held) c.lay_short.new.block c.round.new.chain c.write_code.new.block _ le
          s.stream.chain s.second s.spare sizeK message c.lay_short.ensures c.round.ensures.chain c.write_code.ensures.size c.write_code.ensures.bytes);
      meter = λ key bytes s. turns;
      turned = (1, turns);
    }
