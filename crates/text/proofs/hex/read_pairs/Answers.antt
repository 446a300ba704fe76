use Rattle.std.proofs.Common.{◌≡◌, ◌%◌, length, sym, ap, ◌∙◌, arith}
use Rattle.std.proofs.lemmas.Grind.{common_steps}
use Rattle.std.specs.Option.{option_map}
use Rattle.text.proofs.Pairs.{pairs_even, pairs_odd, read_not, read_all}
use Rattle.text.proofs.hex.read_pairs.Goals as goal

pub returns-then-not-is_empty : goal.returns-then-not-is_empty
returns-then-not-is_empty c = sym (pairs_odd c.args.text.now (grind (arith, common_steps)))

pub returns-in_err-place : goal.returns-in_err-place
returns-in_err-place c =
    let even : length c.args.text.now % 2 ≡ 0 = grind (arith, common_steps) in
    ap (option_map _) c.from_residual.ensures
    ∙ sym (pairs_even c.args.text.now _ c.as_chunks.ensures.front even ∙ read_not c.as_chunks.result.0.now c.loop-i.i c.loop-i.place c.loop-i-test.true (sym c.in_err-place.ensures) c.loop-i.invariant)

pub returns : goal.returns
returns c =
    let even : length c.args.text.now % 2 ≡ 0 = grind (arith, common_steps) in
    sym (pairs_even c.args.text.now _ c.as_chunks.ensures.front even ∙ read_all c.as_chunks.result.0.now c.loop-i.i c.loop-i.place c.loop-i-test.false (omega (arith, c.as_chunks.ensures.front_len)) c.loop-i.invariant)
