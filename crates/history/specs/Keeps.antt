-- The means of the proof: a node has come to stand for what its history says. Assumes nothing.
use Rattle.std.specs.Prelude.{◌≡◌, ℕ, ◌≤◌, List, ◌∷◌, length, Some, None, Option, slice_index, slice_index_or}
use Rattle.std.specs.List.{AllByRecursion}
use Rattle.hash.specs.Meter.{after}
use Rattle.refusals.specs.Questions.{first_refusal}
use Rattle.mac.specs.Face.{Face}
use Rattle.node.specs.declared.Node.{Node}
use Rattle.node.specs.declared.desk.Desk.{Desk}
use Rattle.node.specs.declared.replay.Call.{Call}
use Rattle.node.specs.Asking.{making_q}
use Rattle.node.specs.Model.{Model, Opened, fed_of}
use Rattle.node.specs.Stands.{Stands}
use Rattle.node.specs.Replies.{Answer}
use Rattle.history.specs.History.{Event, event, key_in, Runs, fed_bytes, order_held, numbers_taken, numbers_sealed, newest, count, is_take, is_carry, is_decline, level_in}
use Rattle.history.specs.Law.{Always, Answered, Rising, cost}

pub record Keys (h : List Event) (slots : List (Option (List ℕ))) : Type 0 where
  pub many : length slots ≡ 8
  pub is : (s : ℕ) → key_in h s ≡ slice_index_or slots s None

pub record Lanes (h : List Event) (lanes : List (Option Opened)) : Type 0 where
  pub many : length lanes ≡ 4
  pub each : (l : ℕ) (o : Opened) → slice_index_or lanes l None ≡ Some o → Runs h l o.key o.bytes
  pub fed : (l : ℕ) → fed_bytes h l ≡ fed_of (slice_index_or lanes l None)

-- the numbers of each slot rise, and the last of them stands in its place
pub record Numbers (of : ℕ → List ℕ) (last : List ℕ) : Type 0 where
  pub many : length last ≡ 8
  pub below : (s : ℕ) → AllByRecursion (λ k. k ≤ slice_index last s) (of s)
  pub rising : (s : ℕ) → Rising (of s)
  pub newest : (s : ℕ) → newest (of s) ≡ slice_index last s

pub record Books (h : List Event) (d : Desk) : Type 0 where
  pub took : Numbers (numbers_taken h) d.took
  pub sealed : Numbers (numbers_sealed h) d.sealed
  pub taken : d.taken ≡ count is_take h
  pub carried : d.carried ≡ count is_carry h
  pub declined : d.declined ≡ count is_decline h
  pub held : order_held h ≡ d.hand
  pub level : d.level ≡ level_in h

pub record Agrees (f : Face) (added t own : ℕ) (h : List Event) (m : Model) : Type 0 where
  pub keys : Keys h m.slots
  pub lanes : Lanes h m.lanes
  pub books : Books h m.desk
  pub answered : Always (Answered f added t own) h
  pub size : m.t ≡ t
  pub address : m.address ≡ own
  pub refusal : m.refusal ≡ first_refusal (making_q f added t own)

-- a node that stands for a model that agrees with the history, and whose hash has made the rounds of the history since it was `first`
pub record Keeps {H A : Type 0} (next : H → H) (f : Face) (added t own : ℕ) (first : H) (n : Node H A) (h : List Event) : Type 0 where
  pub model : Model
  pub stands : Stands next f n model
  pub agrees : Agrees f added t own h model
  pub meter : n.hash ≡ after next first (cost f h)

-- one call more, whatever came before
abbrev pub GoesOn : {H A : Type 0} → (H → H) → Face → Node H A → Node H A → Call → Answer → Type 0
GoesOn {H} next f n0 n1 c a =
    (added t own : ℕ) (first : H) (h : List Event) → Keeps next f added t own first n0 h → Keeps next f added t own first n1 (event c a ∷ h)
