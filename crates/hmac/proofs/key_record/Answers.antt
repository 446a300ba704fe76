use Rattle.std.proofs.Common.{◌≡◌, List, length, take, ap, ◌∙◌}
use Rattle.std.proofs.lemmas.List.{take_all}
use Rattle.mac.proofs.Spans.{at_most}
use Rattle.mac.specs.declared.KeyRecord.{KeyRecord}
use Rattle.hmac.specs.Hmac.{keys, xored, filled_key, after_block}
use Rattle.hmac.proofs.key_record.Goals as goal

pub returns-clause-stands : goal.returns-clause-stands
returns-clause-stands g c =
    let m = g.H.Hash.meaning in
    let key = c.args.key.now in
    λ fits.
    let whole : take 64 key ≡ key = take_all 64 key (at_most keys (length key) fits) in
    record {
      size = fits;
      first = c.keyed_chain.ensures.chain ∙ ap (λ (k : List _). after_block m (xored 0x36 (filled_key k))) whole;
      second = c.keyed_chain-2.ensures.chain ∙ ap (λ (k : List _). after_block m (xored 0x5c (filled_key k))) whole;
      bytes = ap (λ (r : KeyRecord). r.bytes) c.blank_record-record.ensures;
    }
