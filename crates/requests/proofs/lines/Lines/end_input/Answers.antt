use Rattle.std.proofs.Common.{◌≡◌, length, vec_items, arith, rules}
use Rattle.std.proofs.lemmas.Result.{MatchResult-weaker}
use Rattle.requests.proofs.Feeding.{finish_some}
use Rattle.requests.proofs.lines.Lines.end_input.Goals as goal

pub returns : goal.returns
returns c =
    let long : length c.args.self.now.held ≡ 1025 = search rules in
    record {
      told = MatchResult-weaker c.end_line.result c.end_line.ensures.told
          (λ x replied. finish_some c.args.self.now c.end_line.new.self (vec_items c.args.out.now) (vec_items c.end_line.new.out) long (omega arith) replied)
          (λ e same. same);
      succeeds = c.end_line.ensures.succeeds;
    }
