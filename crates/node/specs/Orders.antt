-- An order as a token, and what the calls that end it answer. Assumes nothing.
use Rattle.std.specs.Prelude.{◌≡◌, Ok, Err, Result}
use Rattle.refusals.specs.declared.Refusal.{Refusal}
use Rattle.node.specs.declared.order.Order.{Order}
use Rattle.node.specs.declared.desk.Fields.{Fields}
use Rattle.node.specs.declared.desk.Desk.{Desk}
use Rattle.node.specs.declared.desk.End.{End}
use Rattle.node.specs.declared.desk.End.TheVariants.{Carry, Decline}
use Rattle.mac.specs.Face.{Face}
use Rattle.node.specs.Model.{Model, After}
use Rattle.node.specs.Calls.{carry, decline, desk_carried, desk_declined}

-- take's answer, by the order's numbers
abbrev pub given : Result Order Refusal → Result Fields Refusal
given (Ok o) = Ok o.fields
given (Err e) = Err e

-- the answer of carry and decline, without the order that a refusal gives back
abbrev pub ended : Result Unit (Refusal × Order) → Result Unit Refusal
ended (Ok u) = Ok u
ended (Err e) = Err e.0

-- a refusal gives back the order that was handed in
abbrev pub GivenBack : Result Unit (Refusal × Order) → Fields → Type 0
GivenBack (Ok u) o = Unit {0}
GivenBack (Err e) o = e.1.fields ≡ o

-- the call that ends an order so, and the books after it
abbrev pub end_call : Face → Model → End → Fields → After Unit
end_call f m Carry o = carry f m o
end_call f m Decline o = decline f m o

abbrev pub desk_ended : Desk → Fields → End → Desk
desk_ended d o Carry = desk_carried d o
desk_ended d o Decline = desk_declined d

-- What it takes to let an order go: the number 0, which no order has that a node gave. The word is opaque, so that nobody else can show it of any.
pub Lapses : Fields → Type 0
Lapses o = o.number ≡ 0

-- it is no empty word
unnumbered : (o : Fields) → o.number ≡ 0 → Lapses o
unfolding Lapses
unnumbered o none = none
