-- What a node stands for: keys in slots, runs by their key and bytes, and the lamp's books. Assumes nothing.
use Rattle.std.specs.Prelude.{ℕ, List, length, Some, None, Ok, Err, Option, Result, slice_index_or, slice_set}
use Rattle.refusals.specs.declared.Refusal.{Refusal}
use Rattle.node.specs.declared.desk.Desk.{Desk}

-- a run by its key and its bytes so far
pub record Opened : Type 0 where
  pub key : List ℕ
  pub bytes : List ℕ

pub record Model : Type 0 where
  -- the key of each slot, and the run of each lane
  pub slots : List (Option (List ℕ))
  pub lanes : List (Option Opened)
  -- level, counts, numbers and the order in hand
  pub desk : Desk
  pub t : ℕ
  pub address : ℕ
  -- why every call is refused, where the making was
  pub refusal : Option Refusal

abbrev pub key_at : Model → ℕ → Option (List ℕ)
key_at m s = slice_index_or m.slots s None

abbrev pub run_at : Model → ℕ → Option Opened
run_at m l = slice_index_or m.lanes l None

-- how many bytes a run has
abbrev pub fed_of : Option Opened → Option ℕ
fed_of None = None
fed_of (Some o) = Some (length o.bytes)

abbrev pub with_slot : Model → ℕ → Option (List ℕ) → Model
with_slot m s key = record { slots = slice_set m.slots s key; lanes = m.lanes; desk = m.desk; t = m.t; address = m.address; refusal = m.refusal }

abbrev pub with_lane : Model → ℕ → Option Opened → Model
with_lane m l o = record { slots = m.slots; lanes = slice_set m.lanes l o; desk = m.desk; t = m.t; address = m.address; refusal = m.refusal }

abbrev pub with_desk : Model → Desk → Model
with_desk m d = record { slots = m.slots; lanes = m.lanes; desk = d; t = m.t; address = m.address; refusal = m.refusal }

-- a call's answer, what the node then stands for, and the rounds that it made
pub record After (X : Type 0) : Type 0 where
  pub answer : Result X Refusal
  pub model : Model
  pub rounds : ℕ

abbrev pub accepted : {X : Type 0} → X → Model → ℕ → After X
accepted x m r = record { answer = Ok x; model = m; rounds = r }

abbrev pub refused : {X : Type 0} → Model → Refusal → After X
refused m e = record { answer = Err e; model = m; rounds = 0 }

-- what comes of a call by its first no
abbrev pub unless : {X : Type 0} → Option Refusal → Model → After X → After X
unless None m x = x
unless (Some e) m x = refused m e
