use Rattle.history.proofs.Likeness.{same_reading}
use Rattle.history.proofs.perform_both.Goals as goal

pub returns-clause-alike : goal.returns-clause-alike
returns-clause-alike g c = λ same.
    same_reading g.A.Algorithm.face g.H.Hash.meaning.added c.args.t c.args.address c.args.other_address _ _ _ _ _ _ c.in_ok-one.ensures.ran.law c.in_ok-two.ensures.ran.law same
