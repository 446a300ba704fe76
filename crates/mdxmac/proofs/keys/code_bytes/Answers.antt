use Rattle.std.proofs.Common.{◌∙◌}
use Rattle.hash.specs.Meaning.{code}
use Rattle.mdxmac.specs.Mixing.{code_front}
use Rattle.mdxmac.proofs.keys.code_bytes.Goals as goal

pub returns : goal.returns
returns g c =
    let m = g.H.Hash.meaning in
    c.front_bytes.ensures ∙ code_front (code m c.args.chain.now) _ c.write_code.new.block m.words g.met.H.Hash.fits.0 c.write_code.ensures.size c.write_code.ensures.bytes
