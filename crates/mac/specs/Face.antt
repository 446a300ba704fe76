-- What an algorithm says of itself. Assumes nothing.
use Rattle.std.specs.Prelude.{◌≡◌, ℕ, ◌+◌, ◌^◌, ◌<◌, ◌≤◌, Bool, true, false, ◌&&◌, List, length, replicate, nat_le}
use Rattle.mac.specs.declared.Span.{Span}
use Rattle.mac.specs.declared.Row.{Row}
use Rattle.mac.specs.declared.KeyRecord.{KeyRecord}
use Rattle.mac.specs.declared.Run.{Run}

-- is n one of the lengths of a span?
abbrev pub within : Span → ℕ → Bool
within s n = nat_le s.least n && nat_le n s.most

-- a row whose tags are of one byte and more
abbrev pub from_one : Span → ℕ → ℕ → Row
from_one keys longest most = record { key = keys; tag = record { least = 1; most = longest }; message = most }

pub record Face : Type 1 where
  -- the lengths of keys, tags and messages
  pub row : Row
  -- does it need a hash with added words?
  pub needs : Bool
  -- rounds: of expand; of a run that stands for n bytes; of one that has ended
  pub setup : ℕ
  pub held : ℕ → ℕ
  pub whole : ℕ → ℕ
  -- the tag of a key, a message and a length
  pub tag : List ℕ → List ℕ → ℕ → List ℕ
  -- a record stands for a key, a run for a key and the bytes so far
  pub RecordStands : KeyRecord → List ℕ → Type 0
  pub RunStands : Run → List ℕ → List ℕ → Type 0

-- what an algorithm owes of its counts and relations
pub record Laws (f : Face) : Type 0 where
  pub none : f.held 0 ≡ 0
  pub rises : (m n : ℕ) → m ≤ n → f.held m ≤ f.held n
  pub bounded : (n : ℕ) → f.held n ≤ f.whole n
  pub keyed : (r : KeyRecord) (k : List ℕ) → f.RecordStands r k → within f.row.key (length k) ≡ true
  pub begun : (r : Run) (k b : List ℕ) → f.RunStands r k b → r.begun ≡ true
  pub fits : (r : Run) (k b : List ℕ) → f.RunStands r k b → length b ≤ f.row.message

-- the limits of every row
pub record Limits (f : Face) : Type 0 where
  pub key : f.row.key.most ≤ 64
  pub some : 1 ≤ f.row.tag.least
  pub tag : f.row.tag.most ≤ 32
  pub message : f.row.message ≤ 1048576
  -- the rounds of a key and a message fit the meter
  pub rounds : (n : ℕ) → n ≤ f.row.message → f.setup + f.whole n < 2 ^ 64

-- a record of zeros
abbrev pub blank : KeyRecord
blank = record { first = replicate 8 0; second = replicate 8 0; bytes = replicate 16 0 }

-- a free run: all zeros
abbrev pub free : Run
free = record { begun = false; fed = 0; chain = replicate 8 0; second = replicate 8 0; bytes = replicate 16 0; held = replicate 64 0 }

-- a run of a record, for no bytes
abbrev pub started : KeyRecord → Run
started r = record { begun = true; fed = 0; chain = r.first; second = r.second; bytes = r.bytes; held = replicate 64 0 }
