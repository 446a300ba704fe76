-- Each call keeps the agreement of a model with its history. Assumes nothing.
use Rattle.std.proofs.Common.{◌≡◌, ℕ, ◌+◌, ◌-◌, ◌<◌, ◌≤◌, min, Bool, true, false, cond, not, ◌&&◌, ◌||◌, eqb, ltb, leb, List, [], ◌∷◌, ◌++◌, length, get_or, take, drop, replicate, is_some, Some, None, Ok, Err, Decides, Option, Result, unwrap_or, sym, refl, ap, ◌∙◌, subst, arith, length-append, Bor, ltb-true}
use borrow.Author.Tests.{both_ways}
use Rattle.std.proofs.lemmas.Bool.{eq-eqb, ne_eqb}
use Rattle.std.proofs.lemmas.List.{take_at}
use Rattle.std.proofs.lemmas.Slice.Eq.{bytes_eq-Decides}
use Rattle.std.specs.List.{AllByRecursion}
use Rattle.std.specs.Str.{bytes_eq}
use Rattle.hash.specs.Meter.{after}
use Rattle.hash.proofs.Turns.{after_after}
use Rattle.refusals.specs.Numbers.{number}
use Rattle.refusals.specs.Questions.{Question, asks, first_refusal}
use Rattle.refusals.specs.declared.Refusal.{Refusal}
use Rattle.refusals.specs.declared.Refusal.TheVariants.{NoAddedWords, TagLength, KeyLength, MessageLength, Room, NoSlot, SlotEmpty, NoLane, LaneBusy, NotBegun, NumbersSpent, WrongTag, Address, OldNumber, OrderInHand}
use Rattle.mac.specs.Face.{Face, Laws, within}
use Rattle.frame.specs.Layout.{header_of, bytes_of_header, signed_part, tag_in}
use Rattle.frame.specs.Reading.{body_questions}
use Rattle.frame.specs.Reading as reading
use Rattle.history.proofs.Frames.{frame_plain, slot_low, header_first, front_long}
use Rattle.frame.specs.Sealing.{header_for}
use Rattle.frame.proofs.Law.{sealable, parts}
use Rattle.node.specs.declared.Node.{Node}
use Rattle.node.specs.declared.desk.Desk.{Desk}
use Rattle.node.specs.declared.desk.Fields.{Fields}
use Rattle.node.specs.declared.replay.Call.{Call}
use Rattle.node.specs.declared.replay.Call.TheVariants.{Install, Clear, Open, Feed, Finish, Judge, Drop, Seal, Take, Carry, Decline}
use Rattle.node.specs.declared.replay.Outcome.TheVariants.{Done, Tag, Verdict, Given}
use Rattle.node.specs.Asking.{making_q, install_q, clear_q, open_q, feed_q, drop_q, finish_q, judge_q, seal_q, frame_q, end_q, addressed}
use Rattle.node.specs.Model.{Model, Opened, After, refused, unless, key_at, run_at, fed_of, with_slot, with_lane, with_desk}
use Rattle.node.specs.Model as model
use Rattle.node.specs.Calls.{guarded, install, clear, open_lane, feed, drop_lane, finish, judge, seal, take_frame, tried, carry, decline, key_of, bytes_of, joined, tag_at, sealed_frame, desk_sealed, desk_taken, desk_carried, desk_declined, order_of}
use Rattle.node.specs.Replaying.{Act, act, placed, performed, Narrow, Performs}
use Rattle.node.specs.Replies.{Answer, done_of, tag_of, verdict_of, framed, frame_of, fields_of}
use Rattle.history.specs.History.{Event, event, AtSlot, AtLane, AtDesk, at_slot, at_lane, at_desk, accepted, compared, slot_deed, lane_deed, desk_deed, key_in, key_after, Runs, fed_more, fed_bytes, order_in, order_held, numbers_taken, frame_in, numbers_sealed, newest}
use Rattle.history.specs.Law.{Right, Answered, Taken, questions, asked, right_tag, cost, settled, held_rounds, whole_rounds}
use Rattle.history.specs.Keeps.{Books, Agrees, Keeps}
use Rattle.history.proofs.Parts.{passes, joined_none, joined_some, both_none, first_of, refuses, keys_kept, keys_set, lanes_kept, lanes_set, books_kept, books_sealed, books_taken, books_carried, books_declined, cost_kept, cost_lane}

-- no question of these is whether a tag is right
abbrev Plain : List Question → Type 0
Plain qs = AllByRecursion (λ q. eqb (number q.refusal) 20 ≡ false) qs

-- something is there
held_some : {X : Type 0} (x : Option X) → is_some x ≡ true → (y : X) × (x ≡ Some y)
held_some None q = absurd (both_ways _ refl q)
held_some (Some y) q = (y, refl)

held_none : {X : Type 0} (x : Option X) → not (is_some x) ≡ true → x ≡ None
held_none None q = refl
held_none (Some y) q = absurd (both_ways _ refl q)

run_some : (x : Option Opened) → is_some (fed_of x) ≡ true → (o : Opened) × (x ≡ Some o)
run_some None q = absurd (both_ways _ refl q)
run_some (Some o) q = (o, refl)

some : (x y : Opened) → Some x ≡ Some y → x ≡ y
unfolding install clear open_lane feed drop_lane finish judge seal take_frame carry decline
some x y is = cc

module _ (f : Face) (laws : Laws f) (added t own : ℕ) (h : List Event) (m : Model) (ag : Agrees f added t own h m) where
  abbrev making : List Question
  making = making_q f added t own

  -- the history with this event agrees with what the call made of the model, and costs the call's rounds more
  record Goes {X : Type 0} (c : Call) (a : Answer) (x : After X) : Type 0 where
    agrees : Agrees f added t own (event c a ∷ h) x.model
    rounds : cost f (event c a ∷ h) ≡ cost f h + x.rounds

  module _ (e : Refusal) (plain : eqb (number e) 20 ≡ false) where
    uncompared : compared (Err e) ≡ false
    uncompared = ap (λ b. b || eqb (number e) 20) (refuses e) ∙ plain

    right_refused : (c : Call) → Right f added t own h c (Err e)
    right_refused (Install s key) = λ y. absurd (both_ways _ (refuses e) y)
    right_refused (Clear s) = λ y. absurd (both_ways _ (refuses e) y)
    right_refused (Open l s) = λ y. absurd (both_ways _ (refuses e) y)
    right_refused (Feed l piece) = λ y. absurd (both_ways _ (refuses e) y)
    right_refused (Finish l room) = λ y. absurd (both_ways _ (refuses e) y)
    right_refused (Judge l given) = λ y. absurd (both_ways _ (refuses e) y)
    right_refused (Drop l) = λ y. absurd (both_ways _ (refuses e) y)
    right_refused (Seal s kind body address room) = λ y. absurd (both_ways _ (refuses e) y)
    right_refused (Take frame) = λ y. absurd (both_ways _ uncompared y)
    right_refused (Carry o) = λ y. absurd (both_ways _ (refuses e) y)
    right_refused (Decline o) = λ y. absurd (both_ways _ (refuses e) y)

    free_refused : (c : Call) → settled f h c (Err e) ≡ 0
    free_refused (Install s key) = ap (λ b. cond b f.setup 0) (refuses e)
    free_refused (Clear s) = refl
    free_refused (Open l s) = refl
    free_refused (Feed l piece) = refl
    free_refused (Finish l room) = ap (λ b. cond b (whole_rounds f (fed_bytes h l)) 0) (refuses e)
    free_refused (Judge l given) = ap (λ b. cond b (whole_rounds f (fed_bytes h l)) 0) (refuses e)
    free_refused (Drop l) = ap (λ b. cond b (held_rounds f (fed_bytes h l)) 0) (refuses e)
    free_refused (Seal s kind body address room) = ap (λ b. cond b (f.whole (8 + length body.now)) 0) (refuses e)
    free_refused (Take frame) = ap (λ b. cond b (f.whole (8 + (header_of frame.now).size)) 0) uncompared
    free_refused (Carry o) = refl
    free_refused (Decline o) = refl

  -- a refused call: nothing but the history has changed, and the sum by r
  still : {X : Type 0} (c : Call) (e : Refusal) (r : ℕ) (v : Result X Refusal) → Answered f added t own h (event c (Err e)) → settled f h c (Err e) ≡ r → Goes {X = X} c (Err e) (record { answer = v; model = m; rounds = r })
  still c e r v right costs =
      let ev : Event = event c (Err e) in
      let ks : (s : ℕ) → slot_deed ev s ≡ AtSlot.leaves = λ s. ap (λ b. cond b (at_slot c s) AtSlot.leaves) (refuses e) in
      let ls : (l : ℕ) → lane_deed ev l ≡ AtLane.leaves = λ l. ap (λ b. cond b (at_lane c l) AtLane.leaves) (refuses e) in
      let d : desk_deed ev ≡ AtDesk.leaves = ap (λ b. cond b (at_desk c) AtDesk.leaves) (refuses e) in
      record {
        agrees = record {
          keys = keys_kept ev h m.slots ks ag.keys;
          lanes = lanes_kept ev h m.lanes ls ag.lanes;
          books = books_kept ev h m.desk d refl refl ag.books;
          answered = (right, ag.answered);
          size = ag.size;
          address = ag.address;
          refusal = ag.refusal;
        };
        rounds = cost_kept ev h f r costs ls;
      }

  unmoved : {X : Type 0} (c : Call) (e : Refusal) → eqb (number e) 20 ≡ false → first_refusal (asked f added t own h c) ≡ Some e → Goes {X = X} c (Err e) (refused m e)
  unmoved c e plain is = still c e 0 (Err e) (record { refusal = sym is; right = right_refused e plain c }) (free_refused e plain c)

  -- a call by its questions: refused by the first no, else accepted
  by_questions : {X : Type 0} (of : Result X Refusal → Answer) → ((e : Refusal) → of (Err e) ≡ Err e) → (c : Call) (qs : List Question) (x : After X) → Plain qs → ((e : Refusal) → first_refusal qs ≡ Some e → first_refusal (asked f added t own h c) ≡ Some e) → (first_refusal qs ≡ None → Goes c (of x.answer) x) → Goes c (of (unless (first_refusal qs) m x).answer) (unless (first_refusal qs) m x)
  by_questions {X} of errs c qs x plain same ok = by (first_refusal qs) refl
    where
      by : (o : Option Refusal) → first_refusal qs ≡ o → Goes c (of (unless o m x).answer) (unless o m x)
      by None q = ok q
      by (Some e) q = subst (λ a. Goes c a (refused {X = X} m e)) (sym (errs e)) (unmoved c e (first_of (λ y. eqb (number y) 20 ≡ false) qs plain e q) (same e q))

  -- where the making was refused, so is every call
  guard : {X : Type 0} (of : Result X Refusal → Answer) → ((e : Refusal) → of (Err e) ≡ Err e) → (c : Call) (x : After X) → (first_refusal making ≡ None → Goes c (of x.answer) x) → Goes c (of (guarded m x).answer) (guarded m x)
  guard of errs c x ok =
      subst (λ o. Goes c (of (unless o m x).answer) (unless o m x)) (sym ag.refusal)
      (by_questions of errs c making x (refl, (refl, (refl, tt))) (λ e q. joined_some making (questions f added t own h c) e q) ok)

  -- both, where the past asks what the call asks
  step : {X : Type 0} (of : Result X Refusal → Answer) → ((e : Refusal) → of (Err e) ≡ Err e) → (c : Call) (qs : List Question) (x : After X) → Plain qs → questions f added t own h c ≡ qs → (first_refusal making ≡ None → first_refusal (asked f added t own h c) ≡ None → first_refusal qs ≡ None → Goes c (of x.answer) x) → Goes c (of (guarded m (unless (first_refusal qs) m x)).answer) (guarded m (unless (first_refusal qs) m x))
  step of errs c qs x plain same ok =
      guard of errs c (unless (first_refusal qs) m x)
      (λ ready.
      let all : first_refusal (asked f added t own h c) ≡ first_refusal qs = joined_none making (questions f added t own h c) ready ∙ ap first_refusal same in
      by_questions of errs c qs x plain (λ e q. all ∙ q) (λ none. ok ready (all ∙ none) none))

  -- an accepted call that changes a slot
  slot_moved : (c : Call) (s : ℕ) (o : Option (List ℕ)) (r : ℕ) → s < 8 → ((i : ℕ) → (i ≡ s → ⊥) → slot_deed (event c (Ok Done)) i ≡ AtSlot.leaves) → key_in (event c (Ok Done) ∷ h) s ≡ o → ((l : ℕ) → lane_deed (event c (Ok Done)) l ≡ AtLane.leaves) → desk_deed (event c (Ok Done)) ≡ AtDesk.leaves → Answered f added t own h (event c (Ok Done)) → settled f h c (Ok Done) ≡ r → Goes c (Ok Done) (model.accepted (tt {0}) (with_slot m s o) r)
  slot_moved c s o r s8 others here ls d right costs =
      let e : Event = event c (Ok Done) in
      record {
        agrees = record {
          keys = keys_set e h m.slots s o s8 others here ag.keys;
          lanes = lanes_kept e h m.lanes ls ag.lanes;
          books = books_kept e h m.desk d refl refl ag.books;
          answered = (right, ag.answered);
          size = ag.size;
          address = ag.address;
          refusal = ag.refusal;
        };
        rounds = cost_kept e h f r costs ls;
      }

  -- an accepted call that changes a lane, settles w and makes r rounds
  lane_moved : {X : Type 0} (v : X) (c : Call) (a : Answer) (l : ℕ) (o : Option Opened) (w r : ℕ) → l < 4 → ((s : ℕ) → slot_deed (event c a) s ≡ AtSlot.leaves) → ((i : ℕ) → (i ≡ l → ⊥) → lane_deed (event c a) i ≡ AtLane.leaves) → ((o' : Opened) → o ≡ Some o' → Runs (event c a ∷ h) l o'.key o'.bytes) → fed_bytes (event c a ∷ h) l ≡ fed_of o → desk_deed (event c a) ≡ AtDesk.leaves → order_in a ≡ None → frame_in a ≡ None → Answered f added t own h (event c a) → settled f h c a ≡ w → w + held_rounds f (fed_of o) ≡ held_rounds f (fed_bytes h l) + r → Goes c a (model.accepted v (with_lane m l o) r)
  lane_moved v c a l o w r l4 ks ls runs fed d none blank right costs sum =
      let e : Event = event c a in
      record {
        agrees = record {
          keys = keys_kept e h m.slots ks ag.keys;
          lanes = lanes_set e h m.lanes l o l4 ls runs fed ag.lanes;
          books = books_kept e h m.desk d none blank ag.books;
          answered = (right, ag.answered);
          size = ag.size;
          address = ag.address;
          refusal = ag.refusal;
        };
        rounds = omega (arith, cost_lane e h f w l l4 costs ls, ap (held_rounds f) fed, sum);
      }

  -- an accepted call that changes the books
  desk_moved : {X : Type 0} (v : X) (c : Call) (a : Answer) (d : Desk) (r : ℕ) → ((s : ℕ) → slot_deed (event c a) s ≡ AtSlot.leaves) → ((l : ℕ) → lane_deed (event c a) l ≡ AtLane.leaves) → Books (event c a ∷ h) d → Answered f added t own h (event c a) → settled f h c a ≡ r → Goes c a (model.accepted v (with_desk m d) r)
  desk_moved v c a d r ks ls books right costs =
      let e : Event = event c a in
      record {
        agrees = record {
          keys = keys_kept e h m.slots ks ag.keys;
          lanes = lanes_kept e h m.lanes ls ag.lanes;
          books = books;
          answered = (right, ag.answered);
          size = ag.size;
          address = ag.address;
          refusal = ag.refusal;
        };
        rounds = cost_kept e h f r costs ls;
      }

  -- what is asked of one place is so at that place alone
  at_other : {D : Type 0} (d d' : D) (i j : ℕ) → (j ≡ i → ⊥) → cond (eqb i j) d d' ≡ d'
  at_other d d' i j ne = ap (λ b. cond b d d') (ne_eqb i j (λ x. ne (sym x)))

  at_same : {D : Type 0} (d d' : D) (i : ℕ) → cond (eqb i i) d d' ≡ d
  at_same d d' i = ap (λ b. cond b d d') (eq-eqb i i refl)

  install_goes : (s : ℕ) (key : Bor (List ℕ)) → Goes (Install s key) (done_of (guarded m (install f m s key.now)).answer) (guarded m (install f m s key.now))
  unfolding install
  install_goes s key =
      let c : Call = Install s key in
      step done_of (λ e. refl) c (install_q f s (length key.now)) (model.accepted (tt {0}) (with_slot m s (Some key.now)) f.setup) (refl, (refl, tt)) refl
      (λ ready all none.
      let s8 = ltb-true s 8 (passes (ltb s 8) (first_refusal (asks (within f.row.key (length key.now)) KeyLength ∷ [])) NoSlot none).0 in
      slot_moved c s (Some key.now) f.setup s8 (λ i ne. at_other (AtSlot.puts key.now) AtSlot.leaves s i ne) (ap (λ x. key_after x (key_in h s)) (at_same (AtSlot.puts key.now) AtSlot.leaves s)) (λ l. refl) refl (record { refusal = sym all; right = λ _. refl }) refl)

  clear_goes : (s : ℕ) → Goes (Clear s) (done_of (guarded m (clear f m s)).answer) (guarded m (clear f m s))
  unfolding clear
  clear_goes s =
      let c : Call = Clear s in
      step done_of (λ e. refl) c (clear_q s (key_at m s)) (model.accepted (tt {0}) (with_slot m s None) 0) (refl, (refl, tt)) (ap (clear_q s) (ag.keys.is s))
      (λ ready all none.
      let s8 = ltb-true s 8 (passes (ltb s 8) (first_refusal (asks (is_some (key_at m s)) SlotEmpty ∷ [])) NoSlot none).0 in
      slot_moved c s None 0 s8 (λ i ne. at_other AtSlot.empties AtSlot.leaves s i ne) (ap (λ x. key_after x (key_in h s)) (at_same AtSlot.empties AtSlot.leaves s)) (λ l. refl) refl (record { refusal = sym all; right = λ _. refl }) refl)

  open_goes : (l s : ℕ) → Goes (Open l s) (done_of (guarded m (open_lane f m l s)).answer) (guarded m (open_lane f m l s))
  unfolding open_lane
  open_goes l s =
      let c : Call = Open l s in
      step done_of (λ e. refl) c (open_q l s (key_at m s) (fed_of (run_at m l))) (model.accepted (tt {0}) (with_lane m l (Some (record { key = unwrap_or (key_at m s) []; bytes = [] }))) 0) (refl, (refl, (refl, (refl, tt))))
      (ap (λ k. open_q l s k (fed_bytes h l)) (ag.keys.is s) ∙ ap (open_q l s (key_at m s)) (ag.lanes.fed l))
      (λ ready all none.
      let p = passes (ltb l 4) _ NoLane none in
      let q = passes (ltb s 8) _ NoSlot p.1 in
      let r = passes (is_some (key_at m s)) _ SlotEmpty q.1 in
      let w = passes (not (is_some (fed_of (run_at m l)))) None LaneBusy r.1 in
      let k = held_some (key_at m s) r.0 in
      let run : Opened = record { key = unwrap_or (key_at m s) []; bytes = [] } in
      let was : fed_bytes h l ≡ None = ag.lanes.fed l ∙ held_none (fed_of (run_at m l)) w.0 in
      let here : lane_deed (event c (Ok Done)) l ≡ AtLane.opens s = at_same (AtLane.opens s) AtLane.leaves l in
      let key : key_in h s ≡ Some (unwrap_or (key_at m s) []) = ag.keys.is s ∙ k.1 ∙ ap Some (sym (ap (λ x. unwrap_or x []) k.1)) in
      lane_moved (tt {0}) c (Ok Done) l (Some run) 0 0 (ltb-true l 4 p.0) (λ i. refl) (λ i ne. at_other (AtLane.opens s) AtLane.leaves l i ne)
      (λ o is. subst (λ (x : Opened). Runs (event c (Ok Done) ∷ h) l x.key x.bytes) (some run o is) (Runs.opened (event c (Ok Done)) h l s (unwrap_or (key_at m s) []) here key))
      (ap (λ x. fed_more x (fed_bytes h l)) here) refl refl refl (record { refusal = sym all; right = λ _. refl }) refl
      (omega (arith, laws.none, ap (held_rounds f) was)))

  feed_goes : (l : ℕ) (piece : Bor (List ℕ)) → Goes (Feed l piece) (done_of (guarded m (feed f m l piece.now)).answer) (guarded m (feed f m l piece.now))
  unfolding feed
  feed_goes l piece =
      step done_of (λ e. refl) (Feed l piece) (feed_q f l (length piece.now) (fed_of (run_at m l))) (added_to (run_at m l)) (refl, (refl, (refl, tt))) (ap (feed_q f l (length piece.now)) (ag.lanes.fed l))
      (λ ready all none.
      let p = passes (ltb l 4) _ NoLane none in
      let q = passes (is_some (fed_of (run_at m l))) _ NotBegun p.1 in
      let k = run_some (run_at m l) q.0 in
      subst (λ x. Goes (Feed l piece) (Ok Done) (added_to x)) (sym k.1) (joins k.0 (ltb-true l 4 p.0) k.1 all))
    where
      added_to : Option Opened → After Unit
      added_to x = model.accepted (tt {0}) (with_lane m l (Some (joined x piece.now))) (f.held (length (bytes_of x) + length piece.now) - f.held (length (bytes_of x)))

      more : (a b : ℕ) → a ≤ a + b
      more a b = omega arith

      sum : (a b : ℕ) → a ≤ b → 0 + b ≡ a + (b - a)
      sum a b le = omega arith

      joins : (o : Opened) → l < 4 → run_at m l ≡ Some o → first_refusal (asked f added t own h (Feed l piece)) ≡ None → Goes (Feed l piece) (Ok Done) (added_to (Some o))
      joins o l4 is all =
          let e : Event = event (Feed l piece) (Ok Done) in
          let run : Opened = record { key = o.key; bytes = o.bytes ++ piece.now } in
          let n : ℕ = length o.bytes in
          let here : lane_deed e l ≡ AtLane.adds piece.now = at_same (AtLane.adds piece.now) AtLane.leaves l in
          let was : fed_bytes h l ≡ Some n = ag.lanes.fed l ∙ ap fed_of is in
          let new : fed_bytes (e ∷ h) l ≡ Some (n + length piece.now) = ap (λ x. fed_more x (fed_bytes h l)) here ∙ ap (fed_more (AtLane.adds piece.now)) was in
          let long : length (o.bytes ++ piece.now) ≡ n + length piece.now = length-append o.bytes piece.now in
          lane_moved (tt {0}) (Feed l piece) (Ok Done) l (Some run) 0 (f.held (n + length piece.now) - f.held n) l4 (λ i. refl) (λ i ne. at_other (AtLane.adds piece.now) AtLane.leaves l i ne)
          (λ o' q. subst (λ (x : Opened). Runs (e ∷ h) l x.key x.bytes) (some run o' q) (Runs.fed e h l o.key o.bytes piece.now here (ag.lanes.each l o is)))
          (new ∙ ap Some (sym long)) refl refl refl (record { refusal = sym all; right = λ _. refl }) refl
          (ap (λ x. 0 + f.held x) long ∙ sum (f.held n) (f.held (n + length piece.now)) (laws.rises n (n + length piece.now) (more n (length piece.now))) ∙ ap (λ x. held_rounds f x + (f.held (n + length piece.now) - f.held n)) (sym was))

  -- the end of a run of so many bytes, by an event that frees its lane and settles w
  ends : {X : Type 0} (v : X) (c : Call) (a : Answer) (l : ℕ) (o : Opened) (w r : ℕ) → l < 4 → run_at m l ≡ Some o → ((s : ℕ) → slot_deed (event c a) s ≡ AtSlot.leaves) → ((i : ℕ) → (i ≡ l → ⊥) → lane_deed (event c a) i ≡ AtLane.leaves) → lane_deed (event c a) l ≡ AtLane.frees → desk_deed (event c a) ≡ AtDesk.leaves → order_in a ≡ None → frame_in a ≡ None → Answered f added t own h (event c a) → settled f h c a ≡ w → w ≡ f.held (length o.bytes) + r → Goes c a (model.accepted v (with_lane m l None) r)
  ends v c a l o w r l4 is ks ls here d none blank right costs sum =
      let was : fed_bytes h l ≡ Some (length o.bytes) = ag.lanes.fed l ∙ ap fed_of is in
      lane_moved v c a l None w r l4 ks ls (λ o' q. let z : ◌≡◌ {A = ℕ} 0 1 = cc in absurd (omega (arith, z))) (ap (λ x. fed_more x (fed_bytes h l)) here) d none blank right costs
      (omega (arith, sum, ap (held_rounds f) was))

  drop_goes : (l : ℕ) → Goes (Drop l) (done_of (guarded m (drop_lane f m l)).answer) (guarded m (drop_lane f m l))
  unfolding drop_lane
  drop_goes l =
      let c : Call = Drop l in
      step done_of (λ e. refl) c (drop_q l (fed_of (run_at m l))) (model.accepted (tt {0}) (with_lane m l None) 0) (refl, (refl, tt)) (ap (drop_q l) (ag.lanes.fed l))
      (λ ready all none.
      let p = passes (ltb l 4) _ NoLane none in
      let q = passes (is_some (fed_of (run_at m l))) None NotBegun p.1 in
      let k = run_some (run_at m l) q.0 in
      let was : fed_bytes h l ≡ Some (length k.0.bytes) = ag.lanes.fed l ∙ ap fed_of k.1 in
      ends (tt {0}) c (Ok Done) l k.0 (f.held (length k.0.bytes)) 0 (ltb-true l 4 p.0) k.1 (λ s. refl) (λ i ne. at_other AtLane.frees AtLane.leaves l i ne) (at_same AtLane.frees AtLane.leaves l) refl refl refl (record { refusal = sym all; right = λ _. refl }) (ap (held_rounds f) was) (omega arith))

  -- the tag of an accepted making has t bytes
  ready_tag : first_refusal making ≡ None → within f.row.tag t ≡ true
  ready_tag ready =
      let p = passes (not (f.needs && eqb added 0)) _ NoAddedWords ready in
      (passes (within f.row.tag t) _ TagLength p.1).0

  whole_sum : (w k : ℕ) → k ≤ w → w ≡ k + (w - k)
  unfolding finish
  whole_sum w k le = omega arith

  module _ (sized : (k b : List ℕ) (n : ℕ) → within f.row.tag n ≡ true → length (f.tag k b n) ≡ n) where
    finish_goes : (l room : ℕ) (place : List ℕ) → take (length (tag_at f m l)) place ≡ tag_at f m l → Goes (Finish l room) (tag_of place (guarded m (finish f m l (min room 32))).answer) (guarded m (finish f m l (min room 32)))
    unfolding finish
    finish_goes l room place there =
        step (tag_of place) (λ e. refl) (Finish l room) qs (closed (run_at m l)) (refl, (refl, (refl, tt)))
        (ap (λ x. finish_q l x t (min room 32)) (ag.lanes.fed l) ∙ ap (λ x. finish_q l (fed_of (run_at m l)) x (min room 32)) (sym ag.size))
        (λ ready all none.
        let p = passes (ltb l 4) _ NoLane none in
        let q = passes (is_some (fed_of (run_at m l))) _ NotBegun p.1 in
        let k = run_some (run_at m l) q.0 in
        subst (λ x. Goes (Finish l room) (Ok (Tag place)) (closed x)) (sym k.1)
        (tagged k.0 (ltb-true l 4 p.0) k.1 ready all (subst (λ x. take (length (f.tag (key_of x) (bytes_of x) m.t)) place ≡ f.tag (key_of x) (bytes_of x) m.t) k.1 there)))
      where
        qs : List Question
        qs = finish_q l (fed_of (run_at m l)) m.t (min room 32)

        closed : Option Opened → After Unit
        closed x = model.accepted (tt {0}) (with_lane m l None) (f.whole (length (bytes_of x)) - f.held (length (bytes_of x)))

        tagged : (o : Opened) → l < 4 → run_at m l ≡ Some o → first_refusal making ≡ None → first_refusal (asked f added t own h (Finish l room)) ≡ None → take (length (f.tag o.key o.bytes m.t)) place ≡ f.tag o.key o.bytes m.t → Goes (Finish l room) (Ok (Tag place)) (closed (Some o))
        tagged o l4 is ready all there =
            let n : ℕ = length o.bytes in
            let was : fed_bytes h l ≡ Some n = ag.lanes.fed l ∙ ap fed_of is in
            let tag : List ℕ = f.tag o.key o.bytes t in
            let first : take t place ≡ tag = subst (λ i. take i place ≡ tag) (sized o.key o.bytes t (ready_tag ready)) (subst (λ i. take (length (f.tag o.key o.bytes i)) place ≡ f.tag o.key o.bytes i) ag.size there) in
            ends (tt {0}) (Finish l room) (Ok (Tag place)) l o (f.whole n) (f.whole n - f.held n) l4 is (λ s. refl) (λ i ne. at_other AtLane.frees AtLane.leaves l i ne) (at_same AtLane.frees AtLane.leaves l) refl refl refl
            (record { refusal = sym all; right = λ _. record { key = o.key; bytes = o.bytes; place = place; run = ag.lanes.each l o is; answer = refl; tag = first } })
            (ap (whole_rounds f) was) (whole_sum (f.whole n) (f.held n) (laws.bounded n))

  judge_goes : (l : ℕ) (given : Bor (List ℕ)) → Goes (Judge l given) (verdict_of (guarded m (judge f m l given.now)).answer) (guarded m (judge f m l given.now))
  unfolding judge seal take_frame
  judge_goes l given =
      step verdict_of (λ e. refl) (Judge l given) (judge_q l (fed_of (run_at m l)) m.t (length given.now)) (closed (run_at m l)) (refl, (refl, (refl, tt)))
      (ap (λ x. judge_q l x t (length given.now)) (ag.lanes.fed l) ∙ ap (λ x. judge_q l (fed_of (run_at m l)) x (length given.now)) (sym ag.size))
      (λ ready all none.
      let p = passes (ltb l 4) _ NoLane none in
      let q = passes (is_some (fed_of (run_at m l))) _ NotBegun p.1 in
      let k = run_some (run_at m l) q.0 in
      subst (λ x. Goes (Judge l given) (Ok (Verdict (said x))) (closed x)) (sym k.1) (judges k.0 (ltb-true l 4 p.0) k.1 all))
    where
      said : Option Opened → Bool
      said x = bytes_eq given.now (f.tag (key_of x) (bytes_of x) m.t)

      closed : Option Opened → After Bool
      closed x = model.accepted (said x) (with_lane m l None) (f.whole (length (bytes_of x)) - f.held (length (bytes_of x)))

      judges : (o : Opened) → l < 4 → run_at m l ≡ Some o → first_refusal (asked f added t own h (Judge l given)) ≡ None → Goes (Judge l given) (Ok (Verdict (said (Some o)))) (closed (Some o))
      judges o l4 is all =
          let n : ℕ = length o.bytes in
          let was : fed_bytes h l ≡ Some n = ag.lanes.fed l ∙ ap fed_of is in
          let tag : List ℕ = f.tag o.key o.bytes t in
          ends (said (Some o)) (Judge l given) (Ok (Verdict (said (Some o)))) l o (f.whole n) (f.whole n - f.held n) l4 is (λ s. refl) (λ i ne. at_other AtLane.frees AtLane.leaves l i ne) (at_same AtLane.frees AtLane.leaves l) refl refl refl
          (record {
            refusal = sym all;
            right = λ _. record {
              key = o.key;
              bytes = o.bytes;
              verdict = bytes_eq given.now tag;
              run = ag.lanes.each l o is;
              answer = ap (λ i. Ok (Verdict (bytes_eq given.now (f.tag o.key o.bytes i)))) ag.size;
              decides = bytes_eq-Decides given.now tag;
            };
          })
          (ap (whole_rounds f) was) (whole_sum (f.whole n) (f.held n) (laws.bounded n))

  module _ (sized : (k b : List ℕ) (n : ℕ) → within f.row.tag n ≡ true → length (f.tag k b n) ≡ n) (s kind : ℕ) (body : Bor (List ℕ)) (address room : ℕ) (address16 : address < 65536) (place : List ℕ) where
    abbrev laid : ℕ → List ℕ
    laid last = bytes_of_header (header_for s kind address (last + 1) body.now) ++ body.now

    abbrev sealing : Call
    sealing = Seal s kind body address room

    abbrev last : ℕ
    last = get_or m.desk.sealed s 0

    sealed_now : first_refusal making ≡ None → s < 8 → is_some (key_at m s) ≡ true → last < 4294967295 → first_refusal (body_questions kind body.now) ≡ None → first_refusal (asked f added t own h sealing) ≡ None →
        take (length (sealed_frame f m s kind body.now address)) place ≡ sealed_frame f m s kind body.now address →
        Goes sealing (Ok (framed place (8 + length body.now + m.t))) (model.accepted (8 + length body.now + m.t) (with_desk m (desk_sealed m.desk s)) (f.whole (8 + length body.now)))
    sealed_now ready s8 has low right all there =
        let k = held_some (key_at m s) has in
        let key : List ℕ = k.0 in
        let hd = header_for s kind address (last + 1) body.now in
        let fits = (sealable s kind address (last + 1) body.now s8 address16 (omega (arith, low)) right).fits in
        let back : header_of place ≡ hd = header_first hd body.now (f.tag (unwrap_or (key_at m s) []) (laid last) m.t) place fits there in
        let a : Answer = Ok (framed place (8 + length body.now + m.t)) in
        let e : Event = event sealing a in
        let was : newest (numbers_sealed h s) ≡ last = ag.books.sealed.newest s in
        let keyed : take (length (laid last ++ f.tag key (laid last) m.t)) place ≡ laid last ++ f.tag key (laid last) m.t =
        subst (λ (x : List ℕ). take (length (laid last ++ f.tag x (laid last) m.t)) place ≡ laid last ++ f.tag x (laid last) m.t) (ap (λ x. unwrap_or x []) k.1) there in
        let sizing : take (length (laid last ++ f.tag key (laid last) t)) place ≡ laid last ++ f.tag key (laid last) t =
        subst (λ (x : ℕ). take (length (laid last ++ f.tag key (laid last) x)) place ≡ laid last ++ f.tag key (laid last) x) ag.size keyed in
        let long : length (laid last ++ f.tag key (laid last) t) ≡ 8 + length body.now + t = front_long hd body.now (f.tag key (laid last) t) t (sized key (laid last) t (ready_tag ready)) in
        let cut : take (8 + length body.now + t) place ≡ laid last ++ f.tag key (laid last) t =
        subst (λ (x : ℕ). take x place ≡ laid last ++ f.tag key (laid last) t) long sizing in
        desk_moved (8 + length body.now + m.t) sealing a (desk_sealed m.desk s) (f.whole (8 + length body.now)) (λ i. refl) (λ l. refl)
        (books_sealed e h m.desk s s8 refl refl (λ i. ap (λ x. cond (eqb x.slot i) (x.number ∷ []) []) back) (eq-eqb s s refl) (λ i ne. ne_eqb s i (λ x. ne (sym x))) ag.books)
        (record {
          refusal = sym all;
          right = λ _. record {
            key = key;
            place = place;
            held = ag.keys.is s ∙ k.1;
            answer = ap (λ i. Ok (framed place (8 + length body.now + i))) ag.size;
            frame = subst (λ (x : ℕ). take (8 + length body.now + t) place ≡ laid x ++ f.tag key (laid x) t) (sym was) cut;
          };
        })
        refl

    seal_goes : take (length (sealed_frame f m s kind body.now address)) place ≡ sealed_frame f m s kind body.now address → Goes sealing (frame_of place (guarded m (seal f m s kind body.now (min room 295))).answer) (guarded m (seal f m s kind body.now (min room 295)))
    unfolding seal
    seal_goes there =
        step (frame_of place) (λ e. refl) sealing qs (model.accepted (8 + length body.now + m.t) (with_desk m (desk_sealed m.desk s)) (f.whole (8 + length body.now))) (refl, (refl, (refl, (refl, (refl, (refl, (refl, tt)))))))
        (ap (λ x. seal_q f s x kind body.now (newest (numbers_sealed h s)) t (min room 295)) (ag.keys.is s)
        ∙ ap (λ x. seal_q f s (key_at m s) kind body.now x t (min room 295)) (ag.books.sealed.newest s)
        ∙ ap (λ x. seal_q f s (key_at m s) kind body.now last x (min room 295)) (sym ag.size))
        (λ ready all none.
        let p = passes (ltb s 8) _ NoSlot none in
        let q = passes (is_some (key_at m s)) _ SlotEmpty p.1 in
        let r = both_none (body_questions kind body.now) (asks (leb (8 + length body.now) f.row.message) MessageLength ∷ asks (ltb last 4294967295) NumbersSpent ∷ asks (leb (8 + length body.now + m.t) (min room 295)) Room ∷ []) q.1 in
        let u = passes (leb (8 + length body.now) f.row.message) _ MessageLength r.1 in
        let v = passes (ltb last 4294967295) _ NumbersSpent u.1 in
        sealed_now ready (ltb-true s 8 p.0) q.0 (ltb-true last 4294967295 v.0) r.0 all there)
      where
        qs : List Question
        qs = seal_q f s (key_at m s) kind body.now last m.t (min room 295)

  module _ (ref : Bor (List ℕ)) where
    abbrev frame : List ℕ
    frame = ref.now

    abbrev slot : ℕ
    slot = (header_of frame).slot

    abbrev last_taken : ℕ
    last_taken = get_or m.desk.took slot 0

    abbrev frame_qs : List Question
    frame_qs = frame_q f m.desk.hand frame m.t m.address (key_at m slot) last_taken

    past_asks : frame_q f (order_held h) frame t own (key_in h slot) (newest (numbers_taken h slot)) ≡ frame_qs
    past_asks =
        ap (λ x. frame_q f x frame t own (key_in h slot) (newest (numbers_taken h slot))) ag.books.held
        ∙ ap (λ x. frame_q f m.desk.hand frame x own (key_in h slot) (newest (numbers_taken h slot))) (sym ag.size)
        ∙ ap (λ x. frame_q f m.desk.hand frame m.t x (key_in h slot) (newest (numbers_taken h slot))) (sym ag.address)
        ∙ ap (λ x. frame_q f m.desk.hand frame m.t m.address x (newest (numbers_taken h slot))) (ag.keys.is slot)
        ∙ ap (λ x. frame_q f m.desk.hand frame m.t m.address (key_at m slot) x) (ag.books.took.newest slot)

    -- the frame has a tag, of a key that its slot holds, and a new number
    record Tried : Type 0 where
      key : List ℕ
      held : key_at m slot ≡ Some key
      long : length frame ≡ 8 + (header_of frame).size + t
      up : last_taken < (header_of frame).number

    tried_now : first_refusal frame_qs ≡ None → Tried
    tried_now none =
        let p = passes (not (is_some m.desk.hand)) _ OrderInHand none in
        let rest = asks (is_some (key_at m slot)) SlotEmpty ∷ asks (addressed m.address (header_of frame).address) Address ∷ asks (leb (8 + (header_of frame).size) f.row.message) MessageLength ∷ asks (ltb last_taken (header_of frame).number) OldNumber ∷ [] in
        let r = both_none (reading.questions frame m.t) rest p.1 in
        let u = passes (is_some (key_at m slot)) _ SlotEmpty r.1 in
        let v = passes (addressed m.address (header_of frame).address) _ Address u.1 in
        let w = passes (leb (8 + (header_of frame).size) f.row.message) _ MessageLength v.1 in
        let x = passes (ltb last_taken (header_of frame).number) None OldNumber w.1 in
        let k = held_some (key_at m slot) u.0 in
        record {
          key = k.0;
          held = k.1;
          long = (parts frame m.t r.0).long ∙ ap (λ i. 8 + (header_of frame).size + i) ag.size;
          up = ltb-true last_taken (header_of frame).number x.0;
        }

    abbrev tag_now : Bool
    tag_now = bytes_eq (tag_in frame) (f.tag (unwrap_or (key_at m slot) []) (signed_part frame) m.t)

    taken_right : Tried → (b : Bool) → tag_now ≡ b → (a : Answer) → accepted a ≡ b → (accepted a ≡ true → a ≡ Ok (Given (order_of frame))) → Taken f added t own h frame a
    taken_right y b q a is given =
        let same : bytes_eq (tag_in frame) (f.tag y.key (signed_part frame) t) ≡ b =
        ap (λ i. bytes_eq (tag_in frame) (f.tag y.key (signed_part frame) i)) (sym ag.size) ∙ ap (λ i. bytes_eq (tag_in frame) (f.tag (unwrap_or i []) (signed_part frame) m.t)) (sym y.held) ∙ q in
        record {
          key = y.key;
          held = ag.keys.is slot ∙ y.held;
          long = y.long;
          decides = subst (λ i. Decides i (tag_in frame ≡ f.tag y.key (signed_part frame) t)) (same ∙ sym is) (bytes_eq-Decides (tag_in frame) (f.tag y.key (signed_part frame) t));
          answer = given;
        }

    tries : Tried → (b : Bool) → tag_now ≡ b → first_refusal (asked f added t own h (Take ref)) ≡ cond b None (Some WrongTag) → Goes (Take ref) (fields_of (tried f m frame b).answer) (tried f m frame b)
    tries y true q all =
        let o : Fields = order_of frame in
        desk_moved o (Take ref) (Ok (Given o)) (desk_taken m.desk o) (f.whole (8 + (header_of frame).size)) (λ i. refl) (λ l. refl)
        (books_taken (event (Take ref) (Ok (Given o))) h m.desk o (slot_low frame) y.up refl refl refl (eq-eqb slot slot refl) (λ i ne. ne_eqb slot i (λ x. ne (sym x))) ag.books)
        (record { refusal = sym all; right = λ _. taken_right y true q (Ok (Given o)) refl (λ _. refl) })
        refl
    tries y false q all =
        still (Take ref) WrongTag (f.whole (8 + (header_of frame).size)) (Err WrongTag)
        (record { refusal = sym all; right = λ _. taken_right y false q (Err WrongTag) refl (λ w. absurd (both_ways _ refl w)) })
        refl

    take_goes : Goes (Take ref) (fields_of (guarded m (take_frame f m frame)).answer) (guarded m (take_frame f m frame))
    unfolding take_frame
    take_goes =
        guard fields_of (λ e. refl) (Take ref) (take_frame f m frame)
        (λ ready.
        let past = frame_q f (order_held h) frame t own (key_in h slot) (newest (numbers_taken h slot)) in
        let tag = asks (right_tag f added t own h frame) WrongTag ∷ [] in
        by_questions fields_of (λ e. refl) (Take ref) frame_qs (tried f m frame tag_now) (frame_plain f m.desk.hand frame m.t m.address (key_at m slot) last_taken)
        (λ e q. joined_none making (past ++ tag) ready ∙ joined_some past tag e (ap first_refusal past_asks ∙ q))
        (λ none.
        let same : right_tag f added t own h frame ≡ tag_now =
        ap (λ i. bytes_eq (tag_in frame) (f.tag (unwrap_or i []) (signed_part frame) t)) (ag.keys.is slot) ∙ ap (λ i. bytes_eq (tag_in frame) (f.tag (unwrap_or (key_at m slot) []) (signed_part frame) i)) (sym ag.size) in
        tries (tried_now none) tag_now refl (joined_none making (past ++ tag) ready ∙ joined_none past tag (ap first_refusal past_asks ∙ none) ∙ ap (λ b. cond b None (Some WrongTag)) same)))

  carry_goes : (o : Fields) → Goes (Carry o) (done_of (guarded m (carry f m o)).answer) (guarded m (carry f m o))
  unfolding carry
  carry_goes o =
      step done_of (λ e. refl) (Carry o) (end_q m.desk.hand o) (model.accepted (tt {0}) (with_desk m (desk_carried m.desk o)) 0) (refl, tt) (ap (λ x. end_q x o) ag.books.held)
      (λ ready all none.
      desk_moved (tt {0}) (Carry o) (Ok Done) (desk_carried m.desk o) 0 (λ i. refl) (λ l. refl) (books_carried (event (Carry o) (Ok Done)) h m.desk o refl refl refl ag.books) (record { refusal = sym all; right = λ _. refl }) refl)

  decline_goes : (o : Fields) → Goes (Decline o) (done_of (guarded m (decline f m o)).answer) (guarded m (decline f m o))
  unfolding decline
  decline_goes o =
      step done_of (λ e. refl) (Decline o) (end_q m.desk.hand o) (model.accepted (tt {0}) (with_desk m (desk_declined m.desk)) 0) (refl, tt) (ap (λ x. end_q x o) ag.books.held)
      (λ ready all none.
      desk_moved (tt {0}) (Decline o) (Ok Done) (desk_declined m.desk) 0 (λ i. refl) (λ l. refl) (books_declined (event (Decline o) (Ok Done)) h m.desk refl refl refl ag.books) (record { refusal = sym all; right = λ _. refl }) refl)

  -- the same of a call as a value
  pub record Went (c : Call) (x : Act) : Type 0 where
    pub agrees : Agrees f added t own (event c x.answer ∷ h) x.model
    pub rounds : cost f (event c x.answer ∷ h) ≡ cost f h + x.rounds

  went : {X : Type 0} (of : Result X Refusal → Answer) (c : Call) (x : After X) → Goes c (of x.answer) x → Went c (act of x)
  went of c x goes = record { agrees = goes.agrees; rounds = goes.rounds }

  -- what stands first in a place of zeros
  front_of : (n : ℕ) (bytes : List ℕ) → take (length bytes) (placed n bytes) ≡ bytes
  front_of n bytes = take_at bytes (drop (length bytes) (replicate n 0)) (length bytes) refl

  pub goes : ((k b : List ℕ) (n : ℕ) → within f.row.tag n ≡ true → length (f.tag k b n) ≡ n) → (c : Call) → Narrow c → Went c (performed f m c)
  unfolding install clear open_lane feed drop_lane finish judge seal take_frame carry decline
  goes sized (Install s key) narrow = went done_of (Install s key) (guarded m (install f m s key.now)) (install_goes s key)
  goes sized (Clear s) narrow = went done_of (Clear s) (guarded m (clear f m s)) (clear_goes s)
  goes sized (Open l s) narrow = went done_of (Open l s) (guarded m (open_lane f m l s)) (open_goes l s)
  goes sized (Feed l piece) narrow = went done_of (Feed l piece) (guarded m (feed f m l piece.now)) (feed_goes l piece)
  goes sized (Finish l room) narrow =
      let place : List ℕ = placed 32 (tag_at f m l) in
      went (tag_of place) (Finish l room) (guarded m (finish f m l (min room 32))) (finish_goes sized l room place (front_of 32 (tag_at f m l)))
  goes sized (Judge l tag) narrow = went verdict_of (Judge l tag) (guarded m (judge f m l tag.now)) (judge_goes l tag)
  goes sized (Drop l) narrow = went done_of (Drop l) (guarded m (drop_lane f m l)) (drop_goes l)
  goes sized (Seal s kind body address room) narrow =
      let frame : List ℕ = sealed_frame f m s kind body.now address in
      let place : List ℕ = placed 295 frame in
      went (frame_of place) (Seal s kind body address room) (guarded m (seal f m s kind body.now (min room 295))) (seal_goes sized s kind body address room narrow place (front_of 295 frame))
  goes sized (Take frame) narrow = went fields_of (Take frame) (guarded m (take_frame f m frame.now)) (take_goes frame)
  goes sized (Carry o) narrow = went done_of (Carry o) (guarded m (carry f m o)) (carry_goes o)
  goes sized (Decline o) narrow = went done_of (Decline o) (guarded m (decline f m o)) (decline_goes o)

-- a node that performed a call keeps its history by one more event
pub goes_on : {H A : Type 0} (next : H → H) (f : Face) (laws : Laws f) → ((k b : List ℕ) (n : ℕ) → within f.row.tag n ≡ true → length (f.tag k b n) ≡ n) →
    (added t own : ℕ) (first : H) (n0 n1 : Node H A) (h : List Event) (c : Call) (a : Answer) → Performs next f n0 n1 c a → Narrow c → Keeps next f added t own first n0 h → Keeps next f added t own first n1 (event c a ∷ h)
goes_on next f laws sized added t own first n0 n1 h c a performs narrow k =
    let x : Act = performed f k.model c in
    let did = performs k.model k.stands in
    let w = goes f laws added t own h k.model k.agrees sized c narrow in
    let same : event c x.answer ≡ event c a = ap (event c) (sym did.answer) in
    record {
      model = x.model;
      stands = did.model;
      agrees = subst (λ (e : Event). Agrees f added t own (e ∷ h) x.model) same w.agrees;
      meter = did.meter ∙ ap (λ y. after next y x.rounds) k.meter ∙ after_after next first (cost f h) x.rounds ∙ ap (after next first) (sym w.rounds) ∙ ap (λ (e : Event). after next first (cost f (e ∷ h))) same;
    }
