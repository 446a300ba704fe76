use Rattle.std.proofs.Common.{ℕ, eqb, length, ap, ◌∙◌, arith}
use Rattle.std.specs.Str.{bytes_eq}
use Rattle.node.proofs.Same.{tested}
use Rattle.node.proofs.compare.is_tag.Goals as goal

pub returns-then-given-le64 : goal.returns-then-given-le64
returns-then-given-le64 g c = λ k b s fits long.
    let given = c.args.given.now in
    let closed = c.close.ensures in
    let same = tested c.close.new.work given (omega (arith, c.close.array_long, c.if-given-le64.true)) in
    (ap (λ (i : ℕ). eqb i 0) c.differing.ensures ∙ same ∙ ap (bytes_eq given) (closed.code k b (length given) s fits), closed.meter k b s)
