-- The calls on lanes. Assumes nothing.
use Rattle.std.proofs.Common.{◌≡◌, ℕ, ◌+◌, ◌-◌, ◌<◌, ◌≤◌, Bool, true, false, cond, not, eqb, leb, List, [], ◌∷◌, ◌++◌, length, get_or, set, drop, is_some, Some, None, Ok, Err, Option, Result, sym, refl, ap, ◌∙◌, subst, arith, le-ltb, lt-ltb, eq-eqb, leb-false, leb-true}
use borrow.Author.Tests.{both_ways}
use Rattle.std.proofs.lemmas.Bool.{ne_eqb}
use Rattle.std.specs.Str.{bytes_eq}
use Rattle.refusals.specs.declared.Refusal.{Refusal}
use Rattle.refusals.specs.declared.Refusal.TheVariants.{NoLane, LaneBusy, NotBegun, MessageLength, Room, TagSize}
use Rattle.refusals.specs.Questions.{asks}
use Rattle.mac.specs.Face.{Face, Laws, within, free}
use Rattle.mac.specs.Promises.{Added, Ended}
use Rattle.mac.specs.declared.KeyRecord.{KeyRecord}
use Rattle.mac.specs.declared.Run.{Run}
use Rattle.node.specs.declared.Node.{Node}
use Rattle.node.specs.Model.{Model, Opened, After, accepted, refused, unless, run_at, fed_of, with_lane}
use Rattle.node.specs.Calls.{open_lane, feed, drop_lane, finish, judge, written, tag_at, joined, key_of, bytes_of}
use Rattle.node.specs.Stands.{Stands, Told, LaneStands}
use Rattle.node.specs.Asking.{joins}
use Rattle.node.specs.Tags.{Compared}
use Rattle.node.proofs.Steps.{lanes_are, lane_written, lane_kept, lane_put, key_held, Asked_of, unkeyed}

module _ {H A : Type 0} (next : H → H) (f : Face) (laws : Laws f) (n : Node H A) (m : Model) (st : Stands next f n m) (l : ℕ) (d : Run) where
  -- the lane's run, as the node holds it
  abbrev run : Run
  run = get_or n.lanes l d

  -- whether a run is under way, by its mark
  pub idle_run : l < 4 → run.begun ≡ false → run_at m l ≡ None
  idle_run l4 b = from (run_at m l) refl (st.lane l d l4)
    where
      from : (x : Option Opened) → run_at m l ≡ x → LaneStands f run (run_at m l) → run_at m l ≡ None
      from None e z = e
      from (Some o) e z = absurd (both_ways _ b (laws.begun run o.key o.bytes (subst (LaneStands f run) e z)))

  pub begun_run : l < 4 → run.begun ≡ true → (o : Opened) × (run_at m l ≡ Some o) × f.RunStands run o.key o.bytes
  begun_run l4 b = from (run_at m l) refl (st.lane l d l4)
    where
      from : (x : Option Opened) → run_at m l ≡ x → LaneStands f run (run_at m l) → (o : Opened) × (run_at m l ≡ Some o) × f.RunStands run o.key o.bytes
      from None e z = absurd (both_ways _ (ap (λ (r : Run). r.begun) (subst (LaneStands f run) e z)) b)
      from (Some o) e z = (o, e, subst (LaneStands f run) e z)

  -- open
  pub open_no_lane : (s : ℕ) → 4 ≤ l → open_lane f m l s ≡ refused m NoLane
  unfolding open_lane
  open_no_lane s ge = rw (le-ltb l 4 ge)

  pub open_unkeyed : (s : ℕ) (e : Refusal) → l < 4 → Asked_of next f n m st s (Err e) → open_lane f m l s ≡ refused m e
  unfolding open_lane
  open_unkeyed s e l4 a = let q = unkeyed next f n m st s e (asks (not (is_some (fed_of (run_at m l)))) LaneBusy ∷ []) a in rw (lt-ltb l 4 l4, q)

  pub open_busy : (s : ℕ) (r : KeyRecord) → l < 4 → s < 8 → get_or n.slots s None ≡ Some r → run.begun ≡ true → open_lane f m l s ≡ refused m LaneBusy
  unfolding open_lane
  open_busy s r l4 s8 held b =
      let k = (key_held next f n m st s r s8 held).1 in
      let o = (begun_run l4 b).1 in
      rw (lt-ltb l 4 l4, lt-ltb s 8 s8, k, o)

  pub opens : (s : ℕ) (r : KeyRecord) (run1 : Run) → l < 4 → s < 8 → length n.lanes ≡ 4 → get_or n.slots s None ≡ Some r → run.begun ≡ false → ((k : List ℕ) → f.RecordStands r k → f.RunStands run1 k []) →
      Told next f n (lane_written next f n m st n.hash l run1) (Ok (tt {0})) (open_lane f m l s)
  unfolding open_lane
  opens s r run1 l4 s8 len held b begins =
      let key = key_held next f n m st s r s8 held in
      let k = key.1 in
      let o = idle_run l4 b in
      rw (lt-ltb l 4 l4, lt-ltb s 8 s8, k, o)
      (record { answer = refl; model = lane_put next f n m st n.hash l run1 (Some (record { key = key.0; bytes = [] })) len (begins key.0 key.2); meter = refl })

  -- drop
  pub drop_no_lane : 4 ≤ l → drop_lane f m l ≡ refused m NoLane
  unfolding drop_lane
  drop_no_lane ge = rw (le-ltb l 4 ge)

  pub drop_idle : l < 4 → run.begun ≡ false → drop_lane f m l ≡ refused m NotBegun
  unfolding drop_lane
  drop_idle l4 b = let o = idle_run l4 b in rw (lt-ltb l 4 l4, o)

  pub drops : (run1 : Run) → l < 4 → length n.lanes ≡ 4 → run.begun ≡ true → run1 ≡ free → Told next f n (lane_written next f n m st n.hash l run1) (Ok (tt {0})) (drop_lane f m l)
  unfolding drop_lane
  drops run1 l4 len b isFree =
      let o = (begun_run l4 b).1 in
      rw (lt-ltb l 4 l4, o) (record { answer = refl; model = lane_put next f n m st n.hash l run1 None len isFree; meter = refl })

  -- feed
  pub feed_no_lane : (piece : List ℕ) → 4 ≤ l → feed f m l piece ≡ refused m NoLane
  unfolding feed finish
  feed_no_lane piece ge = rw (le-ltb l 4 ge)

  module _ (l4 : l < 4) (len : length n.lanes ≡ 4) (h1 : H) (run1 : Run) (r : Result Unit Refusal) where
    abbrev Owed : After Unit → Type 0
    Owed x = Told next f n (lane_written next f n m st h1 l run1) r x

    -- a refusal of the algorithm's
    kept : (e : Refusal) → r ≡ Err e → (run1 ≡ run) × (h1 ≡ n.hash) → Owed (refused m e)
    kept e is j = record { answer = is; model = lane_kept next f n m st h1 l run1 d j.0; meter = j.1 }

    -- a piece for a lane that is there, by the run that it has
    abbrev fed_call : List ℕ → Option Opened → After Unit
    fed_call piece x =
        unless (cond (is_some (fed_of x)) (cond (joins f.row.message (length piece) (fed_of x)) None (Some MessageLength)) (Some NotBegun)) m
        (accepted (tt {0}) (with_lane m l (Some (joined x piece))) (f.held (length (bytes_of x) + length piece) - f.held (length (bytes_of x))))

    fed_size : (piece : List ℕ) → Added next f n.hash h1 run run1 piece r → (o : Opened) → f.RunStands run o.key o.bytes → (b : Bool) → leb (length o.bytes + length piece) f.row.message ≡ b →
        Owed (unless (cond b None (Some MessageLength)) m (accepted (tt {0}) (with_lane m l (Some (joined (Some o) piece))) (f.held (length o.bytes + length piece) - f.held (length o.bytes))))
    fed_size piece added o s true e =
        let j = added.joined o.key o.bytes s (leb-true _ _ e) in
        record { answer = j.0; model = lane_put next f n m st h1 l run1 (Some (joined (Some o) piece)) len j.1; meter = j.2 }
    fed_size piece added o s false e =
        let j = added.long o.key o.bytes s (leb-false _ _ e) in
        kept MessageLength j (added.refused MessageLength j)

    fed_run : (piece : List ℕ) → Added next f n.hash h1 run run1 piece r → (x : Option Opened) → LaneStands f run x → Owed (fed_call piece x)
    fed_run piece added None z =
        let j = added.idle (ap (λ (q : Run). q.begun) z) in
        kept NotBegun j (added.refused NotBegun j)
    fed_run piece added (Some o) z = fed_size piece added o z (leb (length o.bytes + length piece) f.row.message) refl

    pub feeds : (piece : List ℕ) → Added next f n.hash h1 run run1 piece r → Owed (feed f m l piece)
    unfolding feed finish
    feeds piece added = rw (lt-ltb l 4 l4) (fed_run piece added (run_at m l) (st.lane l d l4))

    -- finish: the answer, and the place to write
    module _ (ready : n.refusal ≡ None) (out0 out1 : List ℕ) (ended : Ended next f n.hash h1 run run1 n.t out0 out1 r) where
      abbrev Owes : Option Opened → After Unit → Type 0
      Owes x y = Owed y × (out1 ≡ written f m r (f.tag (key_of x) (bytes_of x) m.t) out0)

      fits : within f.row.tag n.t ≡ true
      fits = ap (within f.row.tag) st.t ∙ st.fits (sym st.refusal ∙ ready)

      unwritten : (e : Refusal) (tag : List ℕ) → r ≡ Err e → out1 ≡ out0 → out1 ≡ written f m r tag out0
      unwritten e tag is same = same ∙ sym (ap (λ x. written f m x tag out0) is)

      end_size : (o : Opened) → f.RunStands run o.key o.bytes → length (f.tag o.key o.bytes m.t) ≡ m.t → (b : Bool) → leb m.t (length out0) ≡ b →
          Owes (Some o) (unless (cond b None (Some Room)) m (accepted (tt {0}) (with_lane m l None) (f.whole (length o.bytes) - f.held (length o.bytes))))
      end_size o s long true e =
          let le : n.t ≤ length out0 = omega (arith, leb-true _ _ e, st.t) in
          let j = ended.tagged o.key o.bytes s fits le in
          let tag = f.tag o.key o.bytes m.t in (
            record { answer = j.0; model = lane_put next f n m st h1 l run1 None len (ended.freed j.0); meter = j.1 },
            j.2 ∙ ap (λ (t : ℕ). f.tag o.key o.bytes t ++ drop t out0) st.t ∙ ap (λ (i : ℕ). tag ++ drop i out0) (sym long) ∙ sym (ap (λ x. written f m x tag out0) j.0),
          )
      end_size o s long false e =
          let lt : length out0 < n.t = omega (arith, leb-false _ _ e, st.t) in
          let is = ended.short (laws.begun run o.key o.bytes s) fits lt in
          let k = ended.refused Room is in
          (kept Room is (k.0, k.1), unwritten Room (f.tag o.key o.bytes m.t) is k.2)

      abbrev end_call : Option Opened → After Unit
      end_call x = unless (cond (is_some (fed_of x)) (cond (leb m.t (length out0)) None (Some Room)) (Some NotBegun)) m (accepted (tt {0}) (with_lane m l None) (f.whole (length (bytes_of x)) - f.held (length (bytes_of x))))

      end_run : ((k b : List ℕ) (t : ℕ) → within f.row.tag t ≡ true → length (f.tag k b t) ≡ t) → (x : Option Opened) → LaneStands f run x → Owes x (end_call x)
      end_run sized None z =
          let is = ended.idle (ap (λ (q : Run). q.begun) z) in
          let k = ended.refused NotBegun is in
          (kept NotBegun is (k.0, k.1), unwritten NotBegun (f.tag [] [] m.t) is k.2)
      end_run sized (Some o) z = end_size o z (sized o.key o.bytes m.t (ap (within f.row.tag) (sym st.t) ∙ fits)) (leb m.t (length out0)) refl

      pub finishes : ((k b : List ℕ) (t : ℕ) → within f.row.tag t ≡ true → length (f.tag k b t) ≡ t) → Owed (finish f m l (length out0)) × (out1 ≡ written f m r (tag_at f m l) out0)
      unfolding finish
      finishes sized = rw (lt-ltb l 4 l4) (end_run sized (run_at m l) (st.lane l d l4))

  pub finish_no_lane : (room : ℕ) → 4 ≤ l → finish f m l room ≡ refused m NoLane
  unfolding finish judge
  finish_no_lane room ge = rw (le-ltb l 4 ge)

  -- judge
  module _ (given : List ℕ) where
    pub judge_no_lane : 4 ≤ l → judge f m l given ≡ refused m NoLane
    unfolding judge
    judge_no_lane ge = rw (le-ltb l 4 ge)

    pub judge_idle : l < 4 → run.begun ≡ false → judge f m l given ≡ refused m NotBegun
    unfolding judge
    judge_idle l4 b = let o = idle_run l4 b in rw (lt-ltb l 4 l4, o)

    pub judge_odd : l < 4 → run.begun ≡ true → (length given ≡ n.t → ⊥) → judge f m l given ≡ refused m TagSize
    unfolding judge
    judge_odd l4 b ne =
        let o = (begun_run l4 b).1 in
        rw (lt-ltb l 4 l4, o, ne_eqb (length given) m.t (λ q. ne (q ∙ sym st.t)))

    abbrev judge_call : Option Opened → After Bool
    judge_call x =
        unless (cond (is_some (fed_of x)) (cond (eqb (length given) m.t) None (Some TagSize)) (Some NotBegun)) m
        (accepted (bytes_eq given (f.tag (key_of x) (bytes_of x) m.t)) (with_lane m l None) (f.whole (length (bytes_of x)) - f.held (length (bytes_of x))))

    pub judges : (h1 : H) (run1 : Run) (lanes1 : List Run) (v : Bool) → l < 4 → length n.lanes ≡ 4 → n.refusal ≡ None → run.begun ≡ true → length given ≡ n.t → lanes1 ≡ set n.lanes l run1 → run1 ≡ free →
        Compared next f n.hash h1 run (length given) given v → Told next f n (lanes_are next f n m st h1 lanes1) (Ok v) (judge f m l given)
    unfolding judge
    judges h1 run1 lanes1 v l4 len ready b eq put isFree compared =
        let o = begun_run l4 b in
        let is = o.1 in
        let same : length given ≡ m.t = eq ∙ st.t in
        let fit : within f.row.tag (length given) ≡ true = ap (within f.row.tag) same ∙ st.fits (sym st.refusal ∙ ready) in
        let j = compared o.0.key o.0.bytes o.2 fit refl in
        rw (put, lt-ltb l 4 l4)
        (subst (λ x. Told next f n (lane_written next f n m st h1 l run1) (Ok v) (judge_call x)) (sym is)
        (rw (eq-eqb (length given) m.t same)
        (record {
          answer = ap Ok (j.0 ∙ ap (λ (t : ℕ). bytes_eq given (f.tag o.0.key o.0.bytes t)) same);
          model = lane_put next f n m st h1 l run1 None len isFree;
          meter = j.1;
        })))
