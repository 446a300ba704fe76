-- An order that was taken is in hand, so that its end is never refused. Assumes nothing.
use Rattle.std.proofs.Common.{◌≡◌, ℕ, Bool, true, false, cond, leb, List, get_or, is_ok, MatchResult, Some, None, Ok, Err, Option, Result, sym, refl, ap, ◌∙◌, subst, arith, eq-eqb}
use borrow.Author.Tests.{both_ways}
use Rattle.refusals.specs.declared.Refusal.{Refusal}
use Rattle.refusals.specs.declared.Refusal.TheVariants.{NotInHand}
use Rattle.refusals.specs.Questions.{first_refusal}
use Rattle.mac.specs.Face.{Face}
use Rattle.frame.specs.Layout.{header_of}
use Rattle.node.specs.declared.Node.{Node}
use Rattle.node.specs.declared.desk.Desk.{Desk}
use Rattle.node.specs.declared.desk.Fields.{Fields}
use Rattle.node.specs.declared.order.Order.{Order}
use Rattle.node.specs.Model.{Model, After, accepted, unless, key_at, with_desk}
use Rattle.node.specs.Asking.{same_order, frame_q}
use Rattle.node.specs.Calls.{guarded, take_frame, tried, right_tag, carry, decline, desk_taken, desk_carried, desk_declined, order_of}
use Rattle.node.specs.Stands.{Stands, Told, Obeys}
use Rattle.node.specs.Orders.{given, ended}
use Rattle.caller.specs.Spending.{desk_ended, ends, spent}

same_self : (o : Fields) → same_order o o ≡ true
same_self o = rw (eq-eqb o.slot o.slot refl, eq-eqb o.number o.number refl, eq-eqb o.kind o.kind refl, eq-eqb o.level o.level refl, eq-eqb o.place o.place refl, eq-eqb o.size o.size refl)

ok_of : (r : Result Unit (Refusal × Order)) → ended r ≡ Ok tt → is_ok r ≡ true
ok_of (Ok u) e = refl
ok_of (Err x) e = let z : ◌≡◌ {A = ℕ} 0 1 = cc in absurd (omega (arith, z))

-- what was kept by a change of the error alone
pub ok_before : {X E : Type 0} (D : Type 0) (r : Result X E) (x : X) → MatchResult r (λ y. ◌≡◌ {A = Result X D} (Ok x) (Ok y)) (λ e. ⊥) → r ≡ Ok x
ok_before D (Ok y) x e = cc
ok_before D (Err d) x e = absurd e

pub not_refused : {X D E : Type 0} (r : Result X E) (s : Result X D) (d : D) → is_ok r ≡ true → is_ok s ≡ is_ok r → s ≡ Err d → ⊥
not_refused r s d ok same is = both_ways _ (ap is_ok is) (same ∙ ok)

module _ (f : Face) (m : Model) (frame : List ℕ) where
  -- the first no of a take
  abbrev no_of : Option Refusal
  no_of = first_refusal (frame_q f m.desk.hand frame m.t m.address (key_at m (header_of frame).slot) (get_or m.desk.took (header_of frame).slot 0))

  -- what an accepted take makes
  took : (first second : Option Refusal) (b : Bool) (o : Fields) → Ok o ≡ (unless first m (unless second m (tried f m frame b))).answer →
      (first ≡ None) × ((unless first m (unless second m (tried f m frame b))).model ≡ with_desk m (desk_taken m.desk o))
  took None None true o e = let same : order_of frame ≡ o = cc in (refl, ap (λ (x : Fields). with_desk m (desk_taken m.desk x)) same)
  took None None false o e = let z : ◌≡◌ {A = ℕ} 0 1 = cc in absurd (omega (arith, z))
  took None (Some x) b o e = let z : ◌≡◌ {A = ℕ} 0 1 = cc in absurd (omega (arith, z))
  took (Some x) second b o e = let z : ◌≡◌ {A = ℕ} 0 1 = cc in absurd (omega (arith, z))

module _ {H A : Type 0} (next : H → H) (f : Face) (carries : Fields → Bool) (n0 n1 : Node H A) (frame : List ℕ) (m : Model) (st : Stands next f n0 m) where
  abbrev a : After Fields
  a = guarded m (take_frame f m frame)

  module _ (o : Fields) (obeys : Obeys next f n0 n1 (Ok o) (λ x. guarded x (take_frame f x frame))) where
    abbrev m1 : Model
    m1 = with_desk m (desk_taken m.desk o)

    known : (m.refusal ≡ None) × (a.model ≡ m1)
    unfolding take_frame
    known = took f m frame m.refusal (no_of f m frame) (right_tag f m frame) o (obeys m st).answer

    stands1 : Stands next f n1 m1
    stands1 = subst (Stands next f n1) known.1 (obeys m st).model

    abbrev end_by : Bool → Option Refusal → Desk → After Unit
    end_by b ref d = unless ref m1 (unless (cond b None (Some NotInHand)) m1 (accepted (tt {0}) (with_desk m1 d) 0))

    end_is : (d : Desk) → end_by (same_order o o) m.refusal d ≡ accepted (tt {0}) (with_desk m1 d) 0
    end_is d = ap (λ (b : Bool). end_by b m.refusal d) (same_self o) ∙ ap (λ (x : Option Refusal). end_by true x d) known.0

    module _ (n2 : Node H A) (r : Result Unit (Refusal × Order)) where
      abbrev Closed : Bool → Type 0
      Closed b = Told next f n1 n2 (ended r) (accepted (tt {0}) (with_desk m1 (desk_ended m1.desk o b)) 0)

      closed : (b : Bool) → Obeys next f n1 n2 (ended r) (λ x. guarded x (cond b (carry f x o) (decline f x o))) → Closed b
      unfolding carry decline
      closed true ob = subst (Told next f n1 n2 (ended r)) (end_is (desk_carried m1.desk o)) (ob m1 stands1)
      closed false ob = subst (Told next f n1 n2 (ended r)) (end_is (desk_declined m1.desk)) (ob m1 stands1)

      -- the end was not refused, and both calls together are what the caller owes
      pub ended_told : (b : Bool) → carries o ≡ b → Obeys next f n1 n2 (ended r) (λ x. guarded x (cond b (carry f x o) (decline f x o))) → (is_ok r ≡ true) × Told next f n0 n2 (Ok b) (spent carries f m frame)
      ended_told b is ob =
          let told = obeys m st in
          let by = closed b ob in (
            ok_of r by.answer,
            subst (λ (x : Result Fields Refusal). Told next f n0 n2 (Ok b) (ends carries a x)) told.answer
                (subst (λ (c : Bool). Told next f n0 n2 (Ok b) (accepted c (with_desk a.model (desk_ended a.model.desk o c)) a.rounds)) (sym is)
                (record { answer = refl; model = subst (λ (x : Model). Stands next f n2 (with_desk x (desk_ended x.desk o b))) (sym known.1) by.model; meter = by.meter ∙ told.meter })),
          )

-- the same of the rule that a level is at most `most`, and of fields that were looked at
pub ended_by : {H A : Type 0} (next : H → H) (f : Face) (most : ℕ) (n0 n1 : Node H A) (frame : List ℕ) (m : Model) (st : Stands next f n0 m) (taken : Result Order Refusal) (order : Order) (o : Fields) → o ≡ order.fields → taken ≡ Ok order →
    Obeys next f n0 n1 (given taken) (λ x. guarded x (take_frame f x frame)) → (n2 : Node H A) (r : Result Unit (Refusal × Order)) (b : Bool) → leb o.level most ≡ b →
    Obeys next f n1 n2 (ended r) (λ x. guarded x (cond b (carry f x order.fields) (decline f x order.fields))) → (is_ok r ≡ true) × Told next f n0 n2 (Ok b) (spent (λ (p : Fields). leb p.level most) f m frame)
ended_by next f most n0 n1 frame m st taken order o same is obeys n2 r b low ob =
    ended_told next f (λ (p : Fields). leb p.level most) n0 n1 frame m st order.fields (subst (λ (t : Result Order Refusal). Obeys next f n0 n1 (given t) (λ x. guarded x (take_frame f x frame))) is obeys) n2 r b
    (subst (λ (p : Fields). leb p.level most ≡ b) same low) ob
