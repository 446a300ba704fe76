use Rattle.std.proofs.Common.{◌≡◌, length, arith, rules}
use Rattle.requests.proofs.Breaks.{one_grown}
use Rattle.requests.proofs.Held.{front_more, front_full}
use Rattle.requests.proofs.lines.Lines.keep.Goals as goal

pub returns-then-n-lt-HELD : goal.returns-then-n-lt-HELD
returns-then-n-lt-HELD c pending s =
    let l = c.args.self.now in
    let long : length l.held ≡ 1025 = search rules in
    record {
      unbroken = one_grown 10 pending c.args.b c.requires s.unbroken;
      held = front_more 1025 l.len l.held pending long s.held c.args.b (omega arith);
    }

pub returns-else-n-lt-HELD : goal.returns-else-n-lt-HELD
returns-else-n-lt-HELD c pending s =
    let l = c.args.self.now in
    let long : length l.held ≡ 1025 = search rules in
    record {
      unbroken = one_grown 10 pending c.args.b c.requires s.unbroken;
      held = front_full 1025 l.len l.held pending long s.held c.args.b (omega arith);
    }
