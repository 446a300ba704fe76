-- A node and what it stands for stay together as one lane or one slot is written. Assumes nothing.
use Rattle.std.proofs.Common.{◌≡◌, ℕ, zero, suc, ◌<◌, ◌≤◌, Bool, ltb, List, [], ◌∷◌, ◌++◌, length, get_or, set, is_some, IsErrAnd, Some, None, Ok, Err, Option, Result, sym, refl, ap, ◌∙◌, subst, ⊎_elim, arith, le-ltb, ltb-true}
use Rattle.std.specs.Prelude.{slice_get}
use Rattle.std.proofs.lemmas.List.{get_or-set_same, get_or-set_other, length-set, set-get_or}
use Rattle.std.proofs.lemmas.Bool.{cases_eq, cases_lt}
use Rattle.refusals.specs.declared.Refusal.{Refusal}
use Rattle.refusals.specs.declared.Refusal.TheVariants.{NoSlot, NoLane}
use Rattle.refusals.specs.Questions.{Question, first_refusal}
use Rattle.mac.specs.Face.{Face}
use Rattle.mac.specs.declared.KeyRecord.{KeyRecord}
use Rattle.mac.specs.declared.Run.{Run}
use Rattle.node.specs.declared.Node.{Node}
use Rattle.node.specs.Asking.{slot_q}
use Rattle.node.specs.Calls.{written}
use Rattle.node.specs.Taking.{Answered}
use Rattle.node.proofs.Asked.{stopped, answered}
use Rattle.node.specs.Model.{Model, Opened, After, refused, with_lane, with_slot}
use Rattle.node.specs.Stands.{Stands, Told, Obeys, LaneStands, SlotStands}

pub slot_same : (f : Face) (x : Option KeyRecord) (y : Option (List ℕ)) → SlotStands f x y → is_some y ≡ is_some x
slot_same f None None z = refl
slot_same f None (Some k) z = absurd z
slot_same f (Some r) None z = absurd z
slot_same f (Some r) (Some k) z = refl

-- a lane that is there, or is not
there : (lanes : List Run) (l : ℕ) (run : Run) → slice_get lanes l ≡ Some run → (l < length lanes) × ((d : Run) → get_or lanes l d ≡ run)
there [] l run e = let z : ◌≡◌ {A = ℕ} 0 1 = cc in absurd (omega (arith, z))
there (x ∷ lanes) zero run e = (omega arith, λ d. cc)
there (x ∷ lanes) (suc l) run e = let r = there lanes l run e in (omega (arith, r.0), r.1)

pub lane_there : (lanes : List Run) (l : ℕ) (run : Run) → length lanes ≡ 4 → slice_get lanes l ≡ Some run → (l < 4) × ((d : Run) → get_or lanes l d ≡ run)
lane_there lanes l run four e = let r = there lanes l run e in (omega (arith, r.0, four), r.1)

lane_gone : (lanes : List Run) (l : ℕ) → slice_get lanes l ≡ None → length lanes ≤ l
lane_gone [] l e = omega arith
lane_gone (x ∷ lanes) zero e = let z : ◌≡◌ {A = ℕ} 0 1 = cc in absurd (omega (arith, z))
lane_gone (x ∷ lanes) (suc l) e = omega (arith, lane_gone lanes l e)

-- what holds at each place of two rows holds once both are written at one place
pub set_both : {X Y : Type 0} (R : X → Y → Type 0) (N : ℕ) (xs : List X) (ys : List Y) (i : ℕ) (x : X) (y : Y) (e : Y) → length xs ≡ N → length ys ≡ N → R x y →
    ((k : ℕ) (d : X) → k < N → R (get_or xs k d) (get_or ys k e)) → (k : ℕ) (d : X) → k < N → R (get_or (set xs i x) k d) (get_or (set ys i y) k e)
set_both R N xs ys i x y e lx ly now rest k d lt =
    ⊎_elim
    (λ (q : k ≡ i).
    let p : i < length xs = omega arith in
    let r : i < length ys = omega arith in
    rw q (rw (get_or-set_same xs i x d, get_or-set_same ys i y e) now))
    (λ (q : k ≡ i → ⊥). rw (get_or-set_other xs i k x d, get_or-set_other ys i k y e) (rest k d lt))
    (cases_eq k i)

-- a refusal that leaves the node as found
pub obeys_refused : {H A X : Type 0} (next : H → H) (f : Face) (n : Node H A) (e : Refusal) (call : Model → After X) → ((m : Model) → Stands next f n m → call m ≡ refused m e) → Obeys next f n n (Err e) call
obeys_refused next f n e call is = λ m st. subst (Told next f n n (Err e)) (sym (is m st)) (record { answer = refl; model = st; meter = refl })

-- the same of an answer that is that refusal
pub obeys_err : {H A X : Type 0} (next : H → H) (f : Face) (n : Node H A) (r : Result X Refusal) (e : Refusal) (call : Model → After X) → IsErrAnd r (λ d. d ≡ e) → ((m : Model) → Stands next f n m → call m ≡ refused m e) → Obeys next f n n r call
obeys_err next f n (Ok x) e call is same = absurd is
obeys_err next f n (Err d) e call is same = rw is (obeys_refused next f n e call same)

-- a refusal writes nothing
pub unwritten : {X : Type 0} (f : Face) (m : Model) (r : Result X Refusal) (e : Refusal) (bytes out : List ℕ) → IsErrAnd r (λ d. d ≡ e) → out ≡ written f m r bytes out
unwritten f m (Ok x) e bytes out is = absurd is
unwritten f m (Err d) e bytes out is = refl

pub obeys_no_lane : {H A X : Type 0} (next : H → H) (f : Face) (n : Node H A) (r : Result X Refusal) (e : Refusal) (call : Model → After X) (l : ℕ) → IsErrAnd r (λ d. d ≡ e) → length n.lanes ≡ 4 →
    (slice_get n.lanes l ≡ None) × (e ≡ NoLane) → ((m : Model) → Stands next f n m → 4 ≤ l → call m ≡ refused m NoLane) → Obeys next f n n r call
obeys_no_lane next f n r e call l is four gone same =
    let ge : 4 ≤ l = omega (arith, lane_gone n.lanes l gone.0, four) in
    obeys_err next f n r e call is (λ m st. same m st ge ∙ ap (refused m) (sym gone.1))

module _ {H A : Type 0} (next : H → H) (f : Face) (n : Node H A) (m : Model) (st : Stands next f n m) where
  abbrev pub hash_moved : H → Node H A
  hash_moved h1 = record { hash = h1; slots = n.slots; lanes = n.lanes; desk = n.desk; t = n.t; address = n.address; refusal = n.refusal; algorithm = n.algorithm }

  abbrev pub lanes_are : H → List Run → Node H A
  lanes_are h1 lanes = record { hash = h1; slots = n.slots; lanes = lanes; desk = n.desk; t = n.t; address = n.address; refusal = n.refusal; algorithm = n.algorithm }

  abbrev pub lane_written : H → ℕ → Run → Node H A
  lane_written h1 i run1 = lanes_are h1 (set n.lanes i run1)

  abbrev pub slot_written : H → ℕ → Option KeyRecord → Node H A
  slot_written h1 i s = record { hash = h1; slots = set n.slots i s; lanes = n.lanes; desk = n.desk; t = n.t; address = n.address; refusal = n.refusal; algorithm = n.algorithm }

  -- the hash is no part of what a node stands for
  pub hash_free : (h1 : H) → Stands next f (hash_moved h1) m
  hash_free h1 = record {
    t = st.t;
    address = st.address;
    refusal = st.refusal;
    fits = st.fits;
    desk = st.desk;
    sound = st.sound;
    lane_count = st.lane_count;
    lane = st.lane;
    slot_count = st.slot_count;
    slot = st.slot;
  }

  -- a lane that is written back as it was
  pub lane_kept : (h1 : H) (i : ℕ) (run1 d : Run) → run1 ≡ get_or n.lanes i d → Stands next f (lane_written h1 i run1) m
  lane_kept h1 i run1 d er = record {
    t = st.t;
    address = st.address;
    refusal = st.refusal;
    fits = st.fits;
    desk = st.desk;
    sound = st.sound;
    lane_count = st.lane_count;
    lane = λ k x lt. rw (er, set-get_or n.lanes i d) (st.lane k x lt);
    slot_count = st.slot_count;
    slot = st.slot;
  }

  pub lane_put : (h1 : H) (i : ℕ) (run1 : Run) (o : Option Opened) → length n.lanes ≡ 4 → LaneStands f run1 o → Stands next f (lane_written h1 i run1) (with_lane m i o)
  lane_put h1 i run1 o l4 s = record {
    t = st.t;
    address = st.address;
    refusal = st.refusal;
    fits = st.fits;
    desk = st.desk;
    sound = st.sound;
    lane_count = simp length-set st.lane_count;
    lane = set_both (LaneStands f) 4 n.lanes m.lanes i run1 o None l4 st.lane_count s st.lane;
    slot_count = st.slot_count;
    slot = st.slot;
  }

  pub slot_put : (h1 : H) (i : ℕ) (s1 : Option KeyRecord) (o : Option (List ℕ)) → length n.slots ≡ 8 → SlotStands f s1 o → Stands next f (slot_written h1 i s1) (with_slot m i o)
  slot_put h1 i s1 o l8 s = record {
    t = st.t;
    address = st.address;
    refusal = st.refusal;
    fits = st.fits;
    desk = st.desk;
    sound = st.sound;
    lane_count = st.lane_count;
    lane = st.lane;
    slot_count = simp length-set st.slot_count;
    slot = set_both (SlotStands f) 8 n.slots m.slots i s1 o None l8 st.slot_count s st.slot;
  }

  -- the key of a slot that holds a record
  pub key_held : (s : ℕ) (r : KeyRecord) → s < 8 → get_or n.slots s None ≡ Some r → (k : List ℕ) × (get_or m.slots s None ≡ Some k) × f.RecordStands r k
  key_held s r s8 held = from (get_or m.slots s None) refl (subst (λ x. SlotStands f x (get_or m.slots s None)) held (st.slot s None s8))
    where
      from : (x : Option (List ℕ)) → get_or m.slots s None ≡ x → SlotStands f (Some r) (get_or m.slots s None) → (k : List ℕ) × (get_or m.slots s None ≡ Some k) × f.RecordStands r k
      from None e z = absurd (subst (SlotStands f (Some r)) e z)
      from (Some k) e z = (k, e, subst (SlotStands f (Some r)) e z)

  -- the questions on a slot are those of what the node stands for
  pub slot_asked : (s : ℕ) (rest : List Question) → first_refusal (slot_q s (is_some (get_or m.slots s None)) ++ rest) ≡ first_refusal (slot_q s (is_some (get_or n.slots s None)) ++ rest)
  slot_asked s rest =
      ⊎_elim
      (λ (lt : s < 8). ap (λ (b : Bool). first_refusal (slot_q s b ++ rest)) (slot_same f _ _ (st.slot s None lt)))
      (λ (ge : 8 ≤ s). rw (le-ltb s 8 ge))
      (cases_lt s 8)

  abbrev pub Asked_of : ℕ → Result KeyRecord Refusal → Type 0
  Asked_of s r = Answered (first_refusal (slot_q s (is_some (get_or n.slots s None)))) (get_or n.slots s None) r

  pub unkeyed : (s : ℕ) (e : Refusal) (rest : List Question) → Asked_of s (Err e) → first_refusal (slot_q s (is_some (get_or m.slots s None)) ++ rest) ≡ Some e
  unkeyed s e rest a = stopped (slot_q s (is_some (get_or m.slots s None))) rest e (slot_asked s [] ∙ a)

  pub keyed : (s : ℕ) (r : KeyRecord) → Asked_of s (Ok r) → (s < 8) × (get_or n.slots s None ≡ Some r)
  keyed s r a = (ltb-true s 8 (answered (ltb s 8) _ NoSlot a.0).0, a.1)
