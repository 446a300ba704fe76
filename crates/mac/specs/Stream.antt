-- A run that is fed piece by piece. Assumes nothing.
use Rattle.std.specs.Prelude.{◌≡◌, ℕ, ◌+◌, ◌-◌, ◌*◌, ◌/◌, ◌%◌, ◌<◌, ◌≤◌, Bool, true, false, cond, List, [], ◌++◌, length, take, drop, Ok, Err, Result}
use Rattle.hash.specs.Meaning.{Meaning, chained, none}
use Rattle.hash.specs.Meter.{after}
use Rattle.mac.specs.Face.{Face, started}
use Rattle.mac.specs.declared.KeyRecord.{KeyRecord}
use Rattle.mac.specs.declared.Run.{Run}
use Rattle.refusals.specs.declared.Refusal.{Refusal}
use Rattle.refusals.specs.declared.Refusal.TheVariants.{MessageLength, NotBegun}

-- the chain has the whole blocks of the bytes, from a start and under added words; the block holds what is left of them
pub record Stream (m : Meaning) (most : ℕ) (start added : List ℕ) (run : Run) (bytes : List ℕ) : Type 0 where
  pub begun : run.begun ≡ true
  pub fed : run.fed ≡ length bytes
  pub few : length bytes ≤ most
  pub chain : run.chain ≡ chained m start added bytes (length bytes / 64)
  pub held : take (length bytes % 64) run.held ≡ drop (64 * (length bytes / 64)) bytes

-- the added words of a run: its second part, where the algorithm needs them
abbrev pub added_of : Bool → Run → List ℕ
added_of needs run = cond needs run.second none

-- what an algorithm owes of its runs: each is a stream under its added words, from a chain that its key determines
pub record Streams (m : Meaning) (f : Face) : Type 0 where
  pub start : List ℕ → List ℕ
  pub starts : (r : KeyRecord) (k : List ℕ) → f.RecordStands r k → f.RunStands (started r) k []
  pub stream : (run : Run) (k b : List ℕ) → f.RunStands run k b → Stream m f.row.message (start k) (added_of f.needs run) run b
  pub joined : (run0 run1 : Run) (k b0 b1 : List ℕ) → f.RunStands run0 k b0 → Stream m f.row.message (start k) (added_of f.needs run0) run1 b1 →
      run1.second ≡ run0.second → run1.bytes ≡ run0.bytes → f.RunStands run1 k b1
  pub steady : (n : ℕ) → n ≤ f.row.message → f.held n ≡ n / 64

module _ {H : Type 0} (next : H → H) (m : Meaning) (most : ℕ) where
  pub record Fed (h0 h1 : H) (run0 run1 : Run) (added piece : List ℕ) (r : Result Unit Refusal) : Type 0 where
    pub idle : run0.begun ≡ false → r ≡ Err NotBegun
    pub long : run0.begun ≡ true → most < run0.fed + length piece → r ≡ Err MessageLength
    pub joined : (start bytes : List ℕ) → Stream m most start added run0 bytes → length bytes + length piece ≤ most →
        (r ≡ Ok tt) × Stream m most start added run1 (bytes ++ piece) × (h1 ≡ after next h0 ((length bytes + length piece) / 64 - length bytes / 64))
    pub refused : (e : Refusal) → r ≡ Err e → (run1 ≡ run0) × (h1 ≡ h0)
    pub turned : (n : ℕ) × (h1 ≡ after next h0 n)
    pub kept : (run1.second ≡ run0.second) × (run1.bytes ≡ run0.bytes)
