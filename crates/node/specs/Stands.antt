-- When a node stands for a model, and what a call owes. Assumes nothing.
use Rattle.std.specs.Prelude.{◌≡◌, ℕ, ◌+◌, ◌^◌, ◌<◌, ◌≤◌, true, List, [], ◌∷◌, length, Some, None, Option, Result, slice_index, slice_index_or}
use Rattle.hash.specs.Meter.{after}
use Rattle.refusals.specs.declared.Refusal.{Refusal}
use Rattle.mac.specs.Face.{Face, within, free}
use Rattle.mac.specs.declared.KeyRecord.{KeyRecord}
use Rattle.mac.specs.declared.Run.{Run}
use Rattle.node.specs.declared.Node.{Node}
use Rattle.node.specs.declared.desk.Desk.{Desk}
use Rattle.node.specs.declared.desk.Fields.{Fields}
use Rattle.node.specs.Model.{Model, Opened, After}
use Rattle.node.specs.Calls.{written}

abbrev pub sum : List ℕ → ℕ
sum [] = 0
sum (x ∷ xs) = x + sum xs

-- 1 while an order is in hand
abbrev pub in_hand : Option Fields → ℕ
in_hand None = 0
in_hand (Some o) = 1

-- the books are in order: every order taken is carried, declined or in hand, and numbers taken rise, so that
-- no more orders were taken than the numbers' sum
pub record Sound (d : Desk) : Type 0 where
  pub orders : d.taken ≡ d.carried + d.declined + in_hand d.hand
  pub few : d.taken ≤ sum d.took
  pub eight : length d.took ≡ 8
  pub small : (s : ℕ) → slice_index d.took s < 2 ^ 32
  pub eight_sealed : length d.sealed ≡ 8

module _ (f : Face) where
  -- a lane is free, all zeros, or holds a run
  abbrev pub LaneStands : Run → Option Opened → Type 0
  LaneStands r None = r ≡ free
  LaneStands r (Some o) = f.RunStands r o.key o.bytes

  abbrev pub SlotStands : Option KeyRecord → Option (List ℕ) → Type 0
  SlotStands None None = Unit {0}
  SlotStands None (Some k) = ⊥
  SlotStands (Some r) None = ⊥
  SlotStands (Some r) (Some k) = f.RecordStands r k

module _ {H A : Type 0} (next : H → H) (f : Face) where
  pub record Stands (n : Node H A) (m : Model) : Type 0 where
    pub t : n.t ≡ m.t
    pub address : n.address ≡ m.address
    pub refusal : n.refusal ≡ m.refusal
    pub fits : m.refusal ≡ None → within f.row.tag m.t ≡ true
    pub desk : n.desk ≡ m.desk
    pub sound : Sound m.desk
    pub lane_count : length m.lanes ≡ 4
    pub lane : (l : ℕ) (r : Run) → l < 4 → LaneStands f (slice_index_or n.lanes l r) (slice_index_or m.lanes l None)
    pub slot_count : length m.slots ≡ 8
    pub slot : (s : ℕ) (r : Option KeyRecord) → s < 8 → SlotStands f (slice_index_or n.slots s r) (slice_index_or m.slots s None)

  -- the answer is the call's, the node stands for what the call makes of it, and of the hash the meter has moved by its rounds
  pub record Told {X : Type 0} (n0 n1 : Node H A) (r : Result X Refusal) (x : After X) : Type 0 where
    pub answer : r ≡ x.answer
    pub model : Stands n1 x.model
    pub meter : n1.hash ≡ after next n0.hash x.rounds

  -- so it is whatever the node stood for
  abbrev pub Obeys : {X : Type 0} → Node H A → Node H A → Result X Refusal → (Model → After X) → Type 0
  Obeys n0 n1 r call = (m : Model) → Stands n0 m → Told n0 n1 r (call m)

  -- a place to write after a call, whatever the node stood for: the bytes over what was there, where nothing was refused
  abbrev pub Writes : {X : Type 0} → Node H A → Result X Refusal → (Model → List ℕ) → List ℕ → List ℕ → Type 0
  Writes n0 r bytes out0 out1 = (m : Model) → Stands n0 m → out1 ≡ written f m r (bytes m) out0
