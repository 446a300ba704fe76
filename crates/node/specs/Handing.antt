-- What is sealed at one node is taken at another. Assumes nothing.
use Rattle.std.specs.Prelude.{◌≡◌, ℕ, ◌<◌, true, cond, List, length, None, Ok, Err, Result, ◌==◌, slice_index, slice_index_or}
use Rattle.refusals.specs.declared.Refusal.{Refusal}
use Rattle.mac.specs.Face.{Face}
use Rattle.hash.specs.Meter.{after}
use Rattle.node.specs.declared.Node.{Node}
use Rattle.node.specs.declared.desk.Fields.{Fields}
use Rattle.node.specs.declared.order.Order.{Order}
use Rattle.node.specs.Model.{Model, key_at}
use Rattle.node.specs.Asking.{addressed}
use Rattle.node.specs.Calls.{guarded, seal, sealed_frame, written, take_frame, next_number}
use Rattle.node.specs.Stands.{Stands, Told}
use Rattle.node.specs.Orders.{given}

-- a lamp with the cabinet's tag length and key in that slot, addressed, with no order in hand and a lower last number there
pub record Ready (cabinet lamp : Model) (slot address : ℕ) : Type 0 where
  pub made : lamp.refusal ≡ None
  pub t : lamp.t ≡ cabinet.t
  pub key : key_at lamp slot ≡ key_at cabinet slot
  pub to : addressed lamp.address address ≡ true
  pub idle : lamp.desk.hand ≡ None
  pub lower : slice_index_or lamp.desk.took slot 0 < next_number cabinet.desk slot

-- the order of the command that is sealed next
abbrev pub ordered : Model → ℕ → ℕ → List ℕ → Fields
ordered cabinet slot kind body = record {
  slot = slot;
  number = next_number cabinet.desk slot;
  kind = kind;
  level = cond (kind == 0) (slice_index body 0) 0;
  place = 8;
  size = length body;
}

-- a refused sealing is the cabinet's answer; what a ready lamp answers to the frame is the command sealed
abbrev pub HandedOver : Face → Model → Model → ℕ → ℕ → List ℕ → ℕ → ℕ → Result (Result Order Refusal) Refusal → Type 0
HandedOver f cabinet lamp slot kind body address room (Err e) = (guarded cabinet (seal f cabinet slot kind body room)).answer ≡ Err e
HandedOver f cabinet lamp slot kind body address room (Ok taken) = Ready cabinet lamp slot address → given taken ≡ Ok (ordered cabinet slot kind body)

module _ {H A : Type 0} (next : H → H) (f : Face) where
  -- a refused sealing is the answer, and leaves the lamp as it was; what was sealed the lamp takes, or refuses
  abbrev pub Heard : Model → Node H A → Node H A → List ℕ → Result ℕ Refusal → Result (Result Order Refusal) Refusal → Type 0
  Heard lamp l0 l1 frame (Err e) r = (r ≡ Err e) × (l1 ≡ l0)
  Heard lamp l0 l1 frame (Ok n) (Err e) = ⊥
  Heard lamp l0 l1 frame (Ok n) (Ok taken) = Told next f l0 l1 (given taken) (guarded lamp (take_frame f lamp frame))

  -- cabinet and lamp before and after, the place to write before and after, and the answer
  pub record Delivered (cabinet lamp : Model) (c0 c1 l0 l1 : Node H A) (slot kind : ℕ) (body : List ℕ) (address : ℕ) (out0 out1 : List ℕ) (r : Result (Result Order Refusal) Refusal) : Type 0 where
    pub sealed : Stands next f c1 (guarded cabinet (seal f cabinet slot kind body (length out0))).model
    pub meter : c1.hash ≡ after next c0.hash (guarded cabinet (seal f cabinet slot kind body (length out0))).rounds
    pub frame : out1 ≡ written f cabinet (guarded cabinet (seal f cabinet slot kind body (length out0))).answer (sealed_frame f cabinet slot kind body address) out0
    pub heard : Heard lamp l0 l1 (sealed_frame f cabinet slot kind body address) (guarded cabinet (seal f cabinet slot kind body (length out0))).answer r
    -- what a ready lamp answers to the frame is the command sealed
    pub taken : (taken : Result Order Refusal) → r ≡ Ok taken → Ready cabinet lamp slot address → given taken ≡ Ok (ordered cabinet slot kind body)
