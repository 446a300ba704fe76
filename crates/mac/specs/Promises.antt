-- What the calls of an algorithm promise, over what it says of itself. A run that is begun but stands for no key
-- and bytes may be answered freely, within `refused`, `turned`, `freed` and `past`. Assumes nothing.
use Rattle.std.specs.Prelude.{◌≡◌, ℕ, ◌+◌, ◌-◌, ◌<◌, ◌≤◌, true, false, List, ◌++◌, length, take, drop, replicate, Ok, Err, Result}
use Rattle.hash.specs.Meter.{after}
use Rattle.mac.specs.declared.KeyRecord.{KeyRecord}
use Rattle.mac.specs.declared.Run.{Run}
use Rattle.refusals.specs.declared.Refusal.{Refusal}
use Rattle.refusals.specs.declared.Refusal.TheVariants.{KeyLength, TagLength, MessageLength, Room, NotBegun}
use Rattle.mac.specs.Face.{Face, within, free}

-- the work block once it is wiped
abbrev pub wiped : List ℕ
wiped = replicate 64 0

-- an accepted answer, of whose value P holds
abbrev pub Accepted : {X : Type 0} → Result X Refusal → (X → Type 0) → Type 0
Accepted (Ok x) P = P x
Accepted (Err e) P = ⊥

module _ {H : Type 0} (next : H → H) (f : Face) where
  -- nothing but the meter of the hash has moved
  abbrev pub Turned : H → H → Type 0
  Turned h0 h1 = (r : ℕ) × (h1 ≡ after next h0 r)

  pub record Expanded (h0 h1 : H) (key : List ℕ) (r : Result KeyRecord Refusal) : Type 0 where
    pub odd : within f.row.key (length key) ≡ false → (r ≡ Err KeyLength) × (h1 ≡ h0)
    pub made : within f.row.key (length key) ≡ true → Accepted r (λ x. f.RecordStands x key) × (h1 ≡ after next h0 f.setup)

  pub record Added (h0 h1 : H) (run0 run1 : Run) (piece : List ℕ) (r : Result Unit Refusal) : Type 0 where
    pub idle : run0.begun ≡ false → r ≡ Err NotBegun
    pub long : (k b : List ℕ) → f.RunStands run0 k b → f.row.message < length b + length piece → r ≡ Err MessageLength
    pub joined : (k b : List ℕ) → f.RunStands run0 k b → length b + length piece ≤ f.row.message →
        (r ≡ Ok tt) × f.RunStands run1 k (b ++ piece) × (h1 ≡ after next h0 (f.held (length b + length piece) - f.held (length b)))
    pub refused : (e : Refusal) → r ≡ Err e → (run1 ≡ run0) × (h1 ≡ h0)
    pub turned : Turned h0 h1

  -- the step that ends a run: the tag of a run stands first in the work block
  pub record Closed (h0 h1 : H) (run : Run) (block1 : List ℕ) : Type 0 where
    pub long : length block1 ≡ 64
    pub code : (k b : List ℕ) (t : ℕ) → f.RunStands run k b → within f.row.tag t ≡ true → take t block1 ≡ f.tag k b t
    pub meter : (k b : List ℕ) → f.RunStands run k b → h1 ≡ after next h0 (f.whole (length b) - f.held (length b))
    pub turned : Turned h0 h1

  pub record Ended (h0 h1 : H) (run0 run1 : Run) (t : ℕ) (out0 out1 : List ℕ) (r : Result Unit Refusal) : Type 0 where
    pub idle : run0.begun ≡ false → r ≡ Err NotBegun
    pub odd : run0.begun ≡ true → within f.row.tag t ≡ false → r ≡ Err TagLength
    pub short : run0.begun ≡ true → within f.row.tag t ≡ true → length out0 < t → r ≡ Err Room
    pub tagged : (k b : List ℕ) → f.RunStands run0 k b → within f.row.tag t ≡ true → t ≤ length out0 →
        (r ≡ Ok tt) × (h1 ≡ after next h0 (f.whole (length b) - f.held (length b))) × (out1 ≡ f.tag k b t ++ drop t out0)
    pub refused : (e : Refusal) → r ≡ Err e → (run1 ≡ run0) × (h1 ≡ h0) × (out1 ≡ out0)
    pub freed : r ≡ Ok tt → run1 ≡ free
    pub past : drop t out1 ≡ drop t out0
    pub turned : Turned h0 h1
