use Rattle.std.proofs.Common.{ℕ, ◌-◌, List, ◌++◌, length, take, replicate, ap, ◌∙◌}
use Rattle.hash.specs.Meaning.{code}
use Rattle.mac.proofs.Spans.{at_least}
use Rattle.mdxmac.specs.Mdx.{keys}
use Rattle.mdxmac.proofs.keys.key_record.Goals as goal

pub returns-clause-stands : goal.returns-clause-stands
returns-clause-stands g c =
    let m = g.H.Hash.meaning in
    λ fits.
    let some = at_least keys (length c.args.key.now) fits in
    record {
      size = fits;
      first = c.mixed_chain-2.ensures.chain some;
      second = c.keep_added.ensures ∙ ap (λ (xs : List ℕ). take m.added xs ++ replicate (8 - m.added) 0) (c.mixed_chain-3.ensures.chain some);
      bytes = c.code_bytes.ensures ∙ ap (λ (xs : List ℕ). take 16 (code m xs)) (c.mixed_chain.ensures.chain some);
    }
