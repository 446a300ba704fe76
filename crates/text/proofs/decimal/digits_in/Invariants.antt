use Rattle.std.proofs.Common.{◌≡◌, ◌^◌, ◌<◌, drop}
use Rattle.text.specs.Decimal.{digits_on}
use Rattle.text.proofs.decimal.digits_in.Given as goal

-- the digits that are left go on from n
abbrev pub invariant-loop-b : goal.invariant-loop-b
invariant-loop-b l =
    (digits_on l.n (drop l.b-index l.text) ≡ digits_on 0 l.text)
    × (l.n < 10 ^ l.b-index)
