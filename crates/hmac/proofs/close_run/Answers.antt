use Rattle.std.proofs.Common.{◌≡◌, ℕ, ◌+◌, ◌-◌, ◌*◌, ◌/◌, ◌%◌, length, ap, ◌∙◌, arith, rules}
use Rattle.hash.specs.Meaning.{blocks}
use Rattle.hash.specs.Meter.{after}
use Rattle.mac.proofs.Codes.{tag_first}
use Rattle.mac.proofs.Spans.{at_most}
use Rattle.hmac.specs.Hmac.{keys, hmac_face, hmac_code}
use Rattle.hmac.proofs.Nested.{closed, end_turns}
use Rattle.hmac.proofs.close_run.Goals as goal

pub returns : goal.returns
returns g c =
    let m = g.H.Hash.meaning in
    let few = g.met.H.Hash.fits.1 in
    let next = g.H.Hash.next in
    let run = c.args.run.now in
    let n = 4 * c.shape_of-n.result.words in
    let isN : n ≡ 4 * m.words = ap (λ (i : ℕ). 4 * i) c.shape_of-n.ensures.0 in
    let turns = end_turns next c.args.hash.now c.chain_end.new.hash c.chain_end-2.new.hash run.fed n m.words c.chain_end.ensures.meter c.chain_end-2.ensures.meter isN few in
    record {
      long = search rules;
      code = λ key bytes t s fits.
          tag_first m (hmac_face m).row.tag c.write_code-2.new.block (hmac_code m key bytes) t (omega arith) fits
          (closed m few key bytes (at_most keys (length key) s.size) run.chain run.second run.held c.chain_end.new.chain c.chain_end-2.new.chain
          c.write_code.new.block c.write_code-2.new.block _ _ run.fed n s.stream.fed isN
          s.stream.chain s.stream.held s.second c.chain_end.ensures.chain c.write_code.ensures.size c.write_code.ensures.bytes c.chain_end-2.ensures.chain c.write_code-2.ensures.size c.write_code-2.ensures.bytes);
      meter = λ key bytes s.
          let number : blocks (run.fed % 64) + 1 ≡ blocks (length bytes) + 1 - length bytes / 64 = omega (arith, s.stream.fed) in
          turns ∙ ap (after next c.args.hash.now) number;
      turned = (blocks (run.fed % 64) + 1, turns);
    }
