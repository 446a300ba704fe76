use Rattle.sha_1.proofs.Strings.{listed, ruled}
use Rattle.sha_1.proofs.vectors.block_of.Goals as goal

pub returns : goal.returns
returns c =
    let e = listed _ c.args.i c.requires in
    record { value = e; rule = ruled c.args.i _ e }
