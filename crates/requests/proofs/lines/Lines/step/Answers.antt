use Rattle.std.proofs.Common.{vec_items}
use Rattle.std.proofs.lemmas.Result.{MatchResult-weaker}
use Rattle.requests.proofs.Feeding.{fed_ended}
use Rattle.requests.proofs.lines.Lines.step.Goals as goal

pub returns-then-b-eq10 : goal.returns-then-b-eq10
returns-then-b-eq10 c =
    MatchResult-weaker c.end_line.result c.end_line.ensures.told
    (λ x replied. fed_ended c.args.self.now c.end_line.new.self (vec_items c.args.out.now) (vec_items c.end_line.new.out) c.args.b c.if-b-eq10.true replied)
    (λ e same. same)
