-- Lists alike cost the same. Assumes nothing.
use Rattle.std.proofs.Common.{◌≡◌, ℕ, ◌+◌, Bool, true, false, cond, ◌||◌, eqb, List, [], ◌∷◌, length, Some, None, Option, sym, refl, ap, ◌∙◌, arith}
use Rattle.hash.specs.Meter.{moved}
use Rattle.mac.specs.Face.{Face}
use Rattle.frame.specs.Layout.{header_of}
use Rattle.node.specs.declared.replay.Call.{Call}
use Rattle.node.specs.declared.replay.Report.{Report}
use Rattle.node.specs.Replies.{Answer}
use Rattle.history.specs.History.{Event, AtLane, at_lane, lane_deed, accepted, compared, answer_number, fed_more, fed_bytes}
use Rattle.history.specs.Law.{Law, Logged, Always, Answered, Right, cost, settled, all_settled, open_rounds, whole_rounds, held_rounds}
use Rattle.history.specs.Alike.{Alike, Together, AlikeCalls}
use Rattle.history.specs.Alike.AlikeCalls.{installs, clears, opens, feeds, finishes, judges, drops, seals, takes, carries, declines}

same_length : (p p' : List ℕ) → length p ≡ length p' → (n : Option ℕ) → fed_more (AtLane.adds p) n ≡ fed_more (AtLane.adds p') n
same_length p p' e None = refl
same_length p p' e (Some n) = ap (λ x. Some (n + x)) e

both : (x x' : AtLane) (b : Bool) (n : Option ℕ) → fed_more x n ≡ fed_more x' n → fed_more (cond b x AtLane.leaves) n ≡ fed_more (cond b x' AtLane.leaves) n
both x x' true n e = e
both x x' false n e = refl

same_deed : (c c' : Call) → AlikeCalls c c' → (l : ℕ) (n : Option ℕ) → fed_more (at_lane c l) n ≡ fed_more (at_lane c' l) n
same_deed c c' (installs s s' key key') l n = refl
same_deed c c' (clears s s') l n = refl
same_deed c c' (opens j s s') l n = both (AtLane.opens s) (AtLane.opens s') (eqb j l) n refl
same_deed c c' (feeds j p p' e) l n = both (AtLane.adds p.now) (AtLane.adds p'.now) (eqb j l) n (same_length p.now p'.now e n)
same_deed c c' (finishes j r r') l n = refl
same_deed c c' (judges j tag tag') l n = refl
same_deed c c' (drops j) l n = refl
same_deed c c' (seals s s' k k' body body' a a' r r' e) l n = refl
same_deed c c' (takes frame frame' e) l n = refl
same_deed c c' (carries o o') l n = refl
same_deed c c' (declines o o') l n = refl

pub same_fed : (h h' : List Event) → Alike h h' → (l : ℕ) → fed_bytes h l ≡ fed_bytes h' l
same_fed [] [] al l = refl
same_fed [] (e' ∷ h') al l = absurd al
same_fed (e ∷ h) [] al l = absurd al
same_fed (e ∷ h) (e' ∷ h') al l =
    ap (λ x. fed_more (cond (eqb x 0) (at_lane e.call l) AtLane.leaves) (fed_bytes h l)) al.0.answers
    ∙ both (at_lane e.call l) (at_lane e'.call l) (accepted e'.answer) (fed_bytes h l) (same_deed e.call e'.call al.0.calls l (fed_bytes h l))
    ∙ ap (fed_more (lane_deed e' l)) (same_fed h h' al.1 l)

module _ (f : Face) (added t own own' : ℕ) where
  -- frames of one length that came to be compared have bodies of one length
  same_frame : (h h' : List Event) (p p' : List ℕ) (n n' : ℕ) (a a' : Answer) → compared a ≡ compared a' → length p ≡ length p' → (compared a ≡ true → length p ≡ 8 + n + t) → (compared a' ≡ true → length p' ≡ 8 + n' + t) → (b : Bool) → compared a' ≡ b → cond (compared a) (f.whole (8 + n)) 0 ≡ cond (compared a') (f.whole (8 + n')) 0
  same_frame h h' p p' n n' a a' q e w w' true is =
      let size : 8 + n ≡ 8 + n' = omega (arith, e, w (q ∙ is), w' is) in
      ap (λ b. cond b (f.whole (8 + n)) 0) q ∙ ap (λ x. cond (compared a') (f.whole x) 0) size
  same_frame h h' p p' n n' a a' q e w w' false is = ap (λ b. cond b (f.whole (8 + n)) 0) (q ∙ is) ∙ sym (ap (λ b. cond b (f.whole (8 + n')) 0) is)

  same_settled : (h h' : List Event) → ((l : ℕ) → fed_bytes h l ≡ fed_bytes h' l) → (c c' : Call) → AlikeCalls c c' → (a a' : Answer) → answer_number a ≡ answer_number a' → Right f added t own h c a → Right f added t own' h' c' a' → settled f h c a ≡ settled f h' c' a'
  same_settled h h' fed c c' (installs s s' key key') a a' q r r' = ap (λ x. cond (eqb x 0) f.setup 0) q
  same_settled h h' fed c c' (clears s s') a a' q r r' = refl
  same_settled h h' fed c c' (opens j s s') a a' q r r' = refl
  same_settled h h' fed c c' (feeds j p p' e) a a' q r r' = refl
  same_settled h h' fed c c' (finishes j room room') a a' q r r' = ap (λ x. cond (eqb x 0) (whole_rounds f (fed_bytes h j)) 0) q ∙ ap (λ x. cond (accepted a') (whole_rounds f x) 0) (fed j)
  same_settled h h' fed c c' (judges j tag tag') a a' q r r' = ap (λ x. cond (eqb x 0) (whole_rounds f (fed_bytes h j)) 0) q ∙ ap (λ x. cond (accepted a') (whole_rounds f x) 0) (fed j)
  same_settled h h' fed c c' (drops j) a a' q r r' = ap (λ x. cond (eqb x 0) (held_rounds f (fed_bytes h j)) 0) q ∙ ap (λ x. cond (accepted a') (held_rounds f x) 0) (fed j)
  same_settled h h' fed c c' (seals s s' k k' body body' i i' room room' e) a a' q r r' = ap (λ x. cond (eqb x 0) (f.whole (8 + length body.now)) 0) q ∙ ap (λ x. cond (accepted a') (f.whole (8 + x)) 0) e
  same_settled h h' fed c c' (takes p p' e) a a' q r r' =
      same_frame h h' p.now p'.now (header_of p.now).size (header_of p'.now).size a a' (ap (λ x. eqb x 0 || eqb x 20) q) e (λ y. (r y).long) (λ y. (r' y).long) (compared a') refl
  same_settled h h' fed c c' (carries o o') a a' q r r' = refl
  same_settled h h' fed c c' (declines o o') a a' q r r' = refl

  same_sum : (h h' : List Event) → Alike h h' → Always (Answered f added t own) h → Always (Answered f added t own') h' → all_settled f h ≡ all_settled f h'
  same_sum [] [] al k k' = refl
  same_sum [] (e' ∷ h') al k k' = absurd al
  same_sum (e ∷ h) [] al k k' = absurd al
  same_sum (e ∷ h) (e' ∷ h') al k k' =
      omega (arith, same_settled h h' (same_fed h h' al.1) e.call e'.call al.0.calls e.answer e'.answer al.0.answers k.0.right k'.0.right, same_sum h h' al.1 k.1 k'.1)

  pub same_cost : (h h' : List Event) → Alike h h' → Always (Answered f added t own) h → Always (Answered f added t own') h' → cost f h ≡ cost f h'
  same_cost h h' al k k' =
      let o : (l : ℕ) → open_rounds f h l ≡ open_rounds f h' l = λ l. ap (held_rounds f) (same_fed h h' al l) in
      omega (arith, same_sum h h' al k k', o 0, o 1, o 2, o 3)

-- two histories alike make the meters read alike
pub same_reading : (f : Face) (added t own own' start start' : ℕ) (h h' : List Event) (r r' : Report) → Law f added t own start h r → Law f added t own' start' h' r' → start ≡ start' → Alike h h' → r.reading ≡ r'.reading
same_reading f added t own own' start start' h h' r r' law law' same al =
    law.reading
    ∙ ap (moved start) (same_cost f added t own own' h h' al law.answered law'.answered)
    ∙ ap (λ x. moved x (cost f h')) same
    ∙ sym law'.reading

-- two lists make the meters read alike wherever they are alike
pub together : (f : Face) (added t own own' start start' : ℕ) (calls calls' : List Call) (answers answers' : List Answer) (reports reports' : List Report) →
    Logged f added t own start calls answers reports → Logged f added t own' start' calls' answers' reports' → start ≡ start' → Together calls calls' answers answers' reports reports'
together f added t own own' start start' calls calls' answers answers' reports reports' one two same =
    record {
      readings = λ k le le' al. same_reading f added t own own' start start' _ _ _ _ (one.law k le) (two.law k le') same al;
      ends = λ al. same_reading f added t own own' start start' _ _ _ _ one.ran.law two.ran.law same al;
    }
