use Rattle.std.proofs.Common.{◌≡◌, ◌+◌, ◌-◌, ◌/◌, ◌%◌, length, ap, ◌∙◌, arith, rules}
use Rattle.hash.specs.Meaning.{blocks}
use Rattle.hash.specs.Meter.{after}
use Rattle.mac.proofs.Codes.{tag_first}
use Rattle.mdxmac.specs.Mdx.{mdx_face, mdx_code}
use Rattle.mdxmac.specs.Mixing.{closed, end_turns}
use Rattle.mdxmac.proofs.close_run.Goals as goal

pub returns : goal.returns
returns g c =
    let m = g.H.Hash.meaning in
    let next = g.H.Hash.next in
    let run = c.args.run.now in
    let sizeK : length run.bytes ≡ 16 = search rules in
    let turns = end_turns next c.args.hash.now c.chain_end.new.hash c.round.new.self (run.fed % 64) c.chain_end.ensures.meter c.round.ensures.meter in
    record {
      long = search rules;
      code = λ key bytes t s fits.
          tag_first m (mdx_face m).row.tag c.write_code.new.block (mdx_code m key bytes) t (omega arith) fits
          (closed m g.met.H.Hash.strings_long key bytes run.chain run.second run.bytes run.held c.chain_end.new.chain c.lay_last.new.block c.round.new.chain
          c.write_code.new.block _ run.fed s.stream.fed s.stream.chain s.second s.spare sizeK s.stream.held c.chain_end.ensures.chain c.lay_last.ensures c.round.ensures.chain c.write_code.ensures.size c.write_code.ensures.bytes);
      meter = λ key bytes s.
          let number : blocks (run.fed % 64) + 1 ≡ blocks (length bytes) + 1 - length bytes / 64 = omega (arith, s.stream.fed) in
          turns ∙ ap (after next c.args.hash.now) number;
      turned = (blocks (run.fed % 64) + 1, turns);
    }
