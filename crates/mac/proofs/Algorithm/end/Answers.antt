use Rattle.std.proofs.Common.{◌≡◌, ℕ, ◌≤◌, true, List, ◌++◌, length, take, drop, sym, refl, ap, ◌∙◌, arith, length-take, rules}
use Rattle.std.proofs.lemmas.List.{drop_at}
use Rattle.mac.specs.Face.{within}
use Rattle.mac.proofs.Spans.{at_most}
use Rattle.mac.proofs.Algorithm.end.Goals as goal

pub returns : goal.returns
returns g c =
    let begun = c.if-not-run.false in
    let t = c.args.t in
    let out = c.args.out.now in
    let fits : within g.Self.Algorithm.face.row.tag t ≡ true = rw (← c.row_of.ensures) (sym c.if-not-has.ensures) in
    let short : t ≤ 64 = let most = at_most g.Self.Algorithm.face.row.tag t fits in let limit = g.met.Self.Algorithm.limits.tag in omega arith in
    let closed = c.close.ensures in
    let block = c.close.new.work in
    record {
      ended = record {
        idle = search rules;
        odd = search rules;
        short = search (rules, arith);
        tagged = λ k b s _ le. (
          refl,
          closed.meter k b s,
          c.write_front.ensures ∙ ap (λ (xs : List ℕ). xs ++ drop t out) (closed.code k b t s fits),
        );
        refused = search rules;
        freed = search rules;
        past = ap (drop t) c.write_front.ensures ∙ drop_at (take t block) (drop t out) t (let long : length block ≡ 64 = closed.long in simp length-take (omega arith));
        turned = search rules;
      };
      zeroed = search rules;
    }
