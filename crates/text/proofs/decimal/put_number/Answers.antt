use Rattle.std.proofs.Common.{arith}
use Rattle.std.proofs.lemmas.Fmt.{length-decimal-le}
use Rattle.text.proofs.decimal.put_number.Goals as goal

pub put_digits-requires : goal.put_digits-requires
put_digits-requires c = omega (arith, length-decimal-le 20 c.args.n (omega arith) (omega arith) c.ranges.n.fits)

pub returns : goal.returns
returns c = record {
  items = c.put_digits.ensures.items;
  len = omega (arith, length-decimal-le 20 c.args.n (omega arith) (omega arith) c.ranges.n.fits);
  capacity = c.put_digits.ensures.capacity;
}
