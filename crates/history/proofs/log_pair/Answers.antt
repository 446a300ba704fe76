use Rattle.history.proofs.Likeness.{together}
use Rattle.history.proofs.log_pair.Goals as goal

pub returns-clause-alike : goal.returns-clause-alike
returns-clause-alike g c = λ same.
    together g.A.Algorithm.face g.H.Hash.meaning.added c.args.t c.args.address c.args.other_address _ _ _ _ _ _ _ _ c.in_ok-one.ensures.ran c.in_ok-two.ensures.ran same
