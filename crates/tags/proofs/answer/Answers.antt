use Rattle.std.proofs.Common.{◌≡◌, ℕ, ◌+◌, ◌-◌, ◌≤◌, List, [], length, Ok, sym, ap, ◌∙◌, arith}
use Rattle.hash.specs.Meter.{after}
use Rattle.hash.proofs.Turns.{reads}
use Rattle.tags.specs.Asked.{asked, unless_refused}
use Rattle.tags.proofs.Asking.{passed, spent, read_out}
use Rattle.tags.proofs.answer.Goals as goal

pub returns : goal.returns
unfolding asked
returns g c =
    let f = g.A.Algorithm.face in
    let laws = g.A.Algorithm.laws in
    let next = g.H.Hash.next in
    let added = g.H.Hash.meaning.added in
    let h = c.args.hash.now in
    let t = c.args.request.t in
    let key : List ℕ = c.args.request.key.now in
    let message : List ℕ = c.args.request.message.now in
    let out : List ℕ = c.args.out.now in
    let n = length message in
    let none_no = sym c.in_ok-ask.ensures in
    let pass = passed f added t (length key) n (length out) none_no in
    let few = pass.few in
    let expanded = c.in_ok-record.ensures.made.made pass.key in
    let begun = c.begin-run.ensures key expanded.0 in
    let joined = c.add.ensures.joined key [] begun (let z : 0 + n ≤ f.row.message = omega arith in z) in
    let ended = c.end.ensures.ended.tagged key message joined.1 pass.tag pass.fits in
    let none = laws.none in
    let bounded = laws.bounded n in
    let held : f.held (0 + n) - f.held 0 ≡ f.held n = grind arith in
    let all : c.end.new.hash ≡ after next h (f.setup + f.whole n) =
    spent next h c.expand.new.hash c.add.new.hash c.end.new.hash f.setup (f.held n) (f.whole n) bounded expanded.1 (joined.2 ∙ ap (after next c.expand.new.hash) held) ended.1 in
    let met = g.met.H.Hash in
    let reading = g.H.Hash.reading in
    let rounds : c.meter.result ≡ f.setup + f.whole n =
    read_out (reading h) c.meter.result (f.setup + f.whole n) c.requires (g.met.A.Algorithm.limits.rounds n few)
    (c.meter.ensures ∙ ap reading all ∙ reads next reading met.capped met.counts h (f.setup + f.whole n)) in
    record {
      answer = ap Ok rounds ∙ sym (ap (λ o. unless_refused o (f.setup + f.whole n)) none_no);
      tag = ended.2;
      long = (g.met.A.Algorithm.sized key message t pass.tag, pass.fits);
    }
