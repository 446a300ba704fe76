use Rattle.std.proofs.Common.{◌++◌, vec_items, sym, ap, ◌∙◌, arith}
use Rattle.std.proofs.lemmas.Fmt.{decimal_digit}
use Rattle.text.proofs.LastDigit.{length-digit, length-step, put_step}
use Rattle.text.proofs.decimal.+put_digits.Goals as goal

pub push_reserved-requires : goal.push_reserved-requires
push_reserved-requires t c = omega (arith, length-digit c.args.n c.if-n-lt10.true)

pub put_digits-requires : goal.put_digits-requires
put_digits-requires t c =
    (omega arith, omega (arith, length-step c.args.n c.if-n-lt10.false c.ranges.n.fits))

pub push_reserved-requires-else-n-lt10 : goal.push_reserved-requires-else-n-lt10
push_reserved-requires-else-n-lt10 t c = omega (arith, length-step c.args.n c.if-n-lt10.false c.ranges.n.fits)

pub returns-then-n-lt10 : goal.returns-then-n-lt10
returns-then-n-lt10 t c = record {
  items = c.push_reserved.ensures.items ∙ ap (λ l. vec_items c.args.out.now ++ l) (sym (decimal_digit c.args.n c.if-n-lt10.true));
  len = omega (arith, length-digit c.args.n c.if-n-lt10.true);
  capacity = omega arith;
}

pub returns-else-n-lt10 : goal.returns-else-n-lt10
returns-else-n-lt10 t c = record {
  items = put_step _ _ _ c.args.n c.if-n-lt10.false c.ranges.n.fits c.put_digits.ensures.items c.push_reserved-else-n-lt10.ensures.items;
  len = omega (arith, length-step c.args.n c.if-n-lt10.false c.ranges.n.fits);
  capacity = omega arith;
}
