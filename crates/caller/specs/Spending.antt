-- What a caller owes that spends every order. Assumes nothing.
use Rattle.std.specs.Prelude.{ℕ, Bool, cond, List, Some, None, Ok, Err, Option, Result}
use Rattle.refusals.specs.declared.Refusal.{Refusal}
use Rattle.mac.specs.Face.{Face}
use Rattle.node.specs.declared.Node.{Node}
use Rattle.node.specs.declared.desk.Fields.{Fields}
use Rattle.node.specs.declared.desk.Desk.{Desk}
use Rattle.node.specs.declared.order.Order.{Order}
use Rattle.node.specs.Model.{Model, After, accepted, with_desk}
use Rattle.node.specs.Calls.{guarded, take_frame, desk_carried, desk_declined}
use Rattle.node.specs.Stands.{Stands, Told}

-- the desk once the order in hand was carried, or declined
abbrev pub desk_ended : Desk → Fields → Bool → Desk
desk_ended d o carries = cond carries (desk_carried d o) (desk_declined d)

-- a take's order is carried where `carries` says so, and declined where not; a refused take stays as it is
module _ (carries : Fields → Bool) where
  abbrev pub ends : After Fields → Result Fields Refusal → After Bool
  ends a (Ok o) = accepted (carries o) (with_desk a.model (desk_ended a.model.desk o (carries o))) a.rounds
  ends a (Err e) = record { answer = Err e; model = a.model; rounds = a.rounds }

  abbrev pub spent : Face → Model → List ℕ → After Bool
  spent f m frame = let a = guarded m (take_frame f m frame) in ends a a.answer

-- the answer; an order that came back is none
abbrev pub plain : {X : Type 0} → Result X (Refusal × Option Order) → Result X Refusal
plain (Ok x) = Ok x
plain (Err (e, back)) = Err e

abbrev pub NoneBack : {X : Type 0} → Result X (Refusal × Option Order) → Type 0
NoneBack (Ok x) = Unit {0}
NoneBack (Err (e, None)) = Unit {0}
NoneBack (Err (e, Some back)) = ⊥

-- So it is whatever the node stood for; and the end of an order in hand is never refused.
abbrev pub Spends : {H A X : Type 0} → (H → H) → Face → Node H A → Node H A → Result X (Refusal × Option Order) → (Model → After X) → Type 0
Spends next f n0 n1 r call = (m : Model) → Stands next f n0 m → Told next f n0 n1 (plain r) (call m) × NoneBack r
