-- Questions one after another, and how each part of the agreement goes on by one event. Assumes nothing.
use Rattle.std.proofs.Common.{◌≡◌, ℕ, zero, suc, ◌+◌, ◌<◌, ◌≤◌, Bool, true, false, cond, eqb, List, [], ◌∷◌, ◌++◌, length, get_or, set, Some, None, Option, sym, refl, ap, ◌∙◌, subst, ⊎_elim, zero-add, arith}
use Rattle.std.proofs.lemmas.List.{get_or-set_same, get_or-set_other, length-set}
use Rattle.std.proofs.lemmas.Bool.{cases_eq}
use Rattle.std.proofs.ByRecursion.{All-weaker}
use Rattle.std.specs.List.{AllByRecursion}
use Rattle.refusals.specs.Questions.{Question, first_refusal}
use Rattle.refusals.specs.Numbers.{number}
use Rattle.refusals.specs.declared.Refusal.{Refusal}
use Rattle.refusals.specs.declared.Refusal.TheVariants.{Unknown, NoAddedWords, KeyLength, TagLength, MessageLength, Room, NoSlot, SlotEmpty, NoLane, LaneBusy, NotBegun, TagSize, Kind, Body, NumbersSpent, FrameLength, Version, Address, OldNumber, WrongTag, OrderInHand, NotInHand, OwnAddress}
use Rattle.mac.specs.Face.{Face}
use Rattle.node.specs.declared.desk.Desk.{Desk}
use Rattle.node.specs.declared.desk.Fields.{Fields}
use Rattle.node.specs.Model.{Opened, fed_of}
use Rattle.node.specs.Calls.{desk_sealed, desk_taken, desk_carried, desk_declined, next_number}
use Rattle.history.specs.History.{Event, AtSlot, AtLane, AtDesk, slot_deed, lane_deed, desk_deed, key_in, key_after, Runs, fed_more, fed_bytes, order_in, order_after, order_held, number_given, numbers_taken, frame_in, number_written, numbers_sealed, newest, count, is_take, is_carry, is_decline, level_after, level_in}
use Rattle.history.specs.Law.{Rising, cost, settled, open_rounds, held_rounds, four}
use Rattle.history.specs.Keeps.{Keys, Lanes, Numbers, Books}

-- a question that is not the first no
pub passes : (b : Bool) (o : Option Refusal) (e : Refusal) → cond b o (Some e) ≡ None → (b ≡ true) × (o ≡ None)
passes true o e q = (refl, q)
passes false o e q = let z : ◌≡◌ {A = ℕ} 0 1 = cc in absurd (omega (arith, z))

pub joined_none : (xs ys : List Question) → first_refusal xs ≡ None → first_refusal (xs ++ ys) ≡ first_refusal ys
joined_none [] ys e = refl
joined_none (q ∷ xs) ys e =
    let p = passes q.passes (first_refusal xs) q.refusal e in
    ap (λ b. cond b (first_refusal (xs ++ ys)) (Some q.refusal)) p.0 ∙ joined_none xs ys p.1

pub joined_some : (xs ys : List Question) (e : Refusal) → first_refusal xs ≡ Some e → first_refusal (xs ++ ys) ≡ Some e
joined_some [] ys e q = let z : ◌≡◌ {A = ℕ} 0 1 = cc in absurd (omega (arith, z))
joined_some (x ∷ xs) ys e q = by x.passes (λ w. joined_some xs ys e w) q
  where
    by : (b : Bool) → (first_refusal xs ≡ Some e → first_refusal (xs ++ ys) ≡ Some e) → cond b (first_refusal xs) (Some x.refusal) ≡ Some e → cond b (first_refusal (xs ++ ys)) (Some x.refusal) ≡ Some e
    by true rest w = rest w
    by false rest w = w

pub both_none : (xs ys : List Question) → first_refusal (xs ++ ys) ≡ None → (first_refusal xs ≡ None) × (first_refusal ys ≡ None)
both_none [] ys e = (refl, e)
both_none (q ∷ xs) ys e =
    let p = passes q.passes (first_refusal (xs ++ ys)) q.refusal e in
    let r = both_none xs ys p.1 in
    (ap (λ b. cond b (first_refusal xs) (Some q.refusal)) p.0 ∙ r.0, r.1)

pub first_of : (P : Refusal → Type 0) (qs : List Question) → AllByRecursion (λ q. P q.refusal) qs → (e : Refusal) → first_refusal qs ≡ Some e → P e
first_of P [] all e q = let z : ◌≡◌ {A = ℕ} 0 1 = cc in absurd (omega (arith, z))
first_of P (x ∷ qs) all e q = by x.passes (λ w. first_of P qs all.1 e w) q
  where
    some : (a b : Refusal) → Some a ≡ Some b → a ≡ b
    some a b w = cc

    by : (b : Bool) → (first_refusal qs ≡ Some e → P e) → cond b (first_refusal qs) (Some x.refusal) ≡ Some e → P e
    by true rest w = rest w
    by false rest w = subst P (some x.refusal e w) all.0

-- no refusal has the number of an acceptance
pub refuses : (e : Refusal) → eqb (number e) 0 ≡ false
refuses Unknown = refl
refuses NoAddedWords = refl
refuses KeyLength = refl
refuses TagLength = refl
refuses MessageLength = refl
refuses Room = refl
refuses NoSlot = refl
refuses SlotEmpty = refl
refuses NoLane = refl
refuses LaneBusy = refl
refuses NotBegun = refl
refuses TagSize = refl
refuses Kind = refl
refuses Body = refl
refuses NumbersSpent = refl
refuses FrameLength = refl
refuses Version = refl
refuses Address = refl
refuses OldNumber = refl
refuses WrongTag = refl
refuses OrderInHand = refl
refuses NotInHand = refl
refuses OwnAddress = refl

pub four_change : (f : Face) (g g' : ℕ → ℕ) (i : ℕ) → i < 4 → ((l : ℕ) → (l ≡ i → ⊥) → g' l ≡ g l) → four f g' + g i ≡ four f g + g' i
four_change f g g' zero lt same = omega (arith, same 1 (λ e. omega (arith, e)), same 2 (λ e. omega (arith, e)), same 3 (λ e. omega (arith, e)))
four_change f g g' (suc zero) lt same = omega (arith, same 0 (λ e. omega (arith, e)), same 2 (λ e. omega (arith, e)), same 3 (λ e. omega (arith, e)))
four_change f g g' (suc (suc zero)) lt same = omega (arith, same 0 (λ e. omega (arith, e)), same 1 (λ e. omega (arith, e)), same 3 (λ e. omega (arith, e)))
four_change f g g' (suc (suc (suc zero))) lt same = omega (arith, same 0 (λ e. omega (arith, e)), same 1 (λ e. omega (arith, e)), same 2 (λ e. omega (arith, e)))
four_change f g g' (suc (suc (suc (suc i)))) lt same = absurd (omega arith)

-- the numbers of the slots, where none comes, and where one comes that is above the last
pub numbers_kept : (of of' : ℕ → List ℕ) (last : List ℕ) → ((s : ℕ) → of' s ≡ of s) → Numbers of last → Numbers of' last
numbers_kept of of' last same k =
    record {
      many = k.many;
      below = λ s. subst (AllByRecursion (λ x. x ≤ get_or last s 0)) (sym (same s)) (k.below s);
      rising = λ s. subst Rising (sym (same s)) (k.rising s);
      newest = λ s. ap newest (same s) ∙ k.newest s;
    }

pub numbers_more : (of of' : ℕ → List ℕ) (last : List ℕ) (i n : ℕ) → i < 8 → get_or last i 0 < n → of' i ≡ n ∷ of i → ((s : ℕ) → (s ≡ i → ⊥) → of' s ≡ of s) → Numbers of last → Numbers of' (set last i n)
numbers_more of of' last i n i8 up here there k =
    let p : i < length last = omega (arith, k.many) in
    record {
      many = simp length-set k.many;
      below = λ s.
          ⊎_elim
          (λ (x : s ≡ i).
          subst (λ y. AllByRecursion (λ z. z ≤ get_or (set last i n) y 0) (of' y)) (sym x)
          (subst (λ y. AllByRecursion (λ z. z ≤ y) (of' i)) (sym (get_or-set_same last i n 0 p))
          (subst (AllByRecursion (λ z. z ≤ n)) (sym here) (le n, All-weaker _ _ (λ z w. omega arith) (of i) (k.below i)))))
          (λ (x : s ≡ i → ⊥).
          subst (λ y. AllByRecursion (λ z. z ≤ y) (of' s)) (sym (get_or-set_other last i s n 0 x))
          (subst (AllByRecursion (λ z. z ≤ get_or last s 0)) (sym (there s x)) (k.below s)))
          (cases_eq s i);
      rising = λ s.
          ⊎_elim
          (λ (x : s ≡ i). subst (λ y. Rising (of' y)) (sym x) (subst Rising (sym here) (All-weaker _ _ (λ z w. omega arith) (of i) (k.below i), k.rising i)))
          (λ (x : s ≡ i → ⊥). subst Rising (sym (there s x)) (k.rising s))
          (cases_eq s i);
      newest = λ s.
          ⊎_elim
          (λ (x : s ≡ i). subst (λ y. newest (of' y) ≡ get_or (set last i n) y 0) (sym x) (ap newest here ∙ sym (get_or-set_same last i n 0 p)))
          (λ (x : s ≡ i → ⊥). ap newest (there s x) ∙ k.newest s ∙ sym (get_or-set_other last i s n 0 x))
          (cases_eq s i);
    }
  where
    le : (z : ℕ) → z ≤ z
    le z = omega arith

module _ (e : Event) (h : List Event) where
  pub keys_kept : (slots : List (Option (List ℕ))) → ((s : ℕ) → slot_deed e s ≡ AtSlot.leaves) → Keys h slots → Keys (e ∷ h) slots
  keys_kept slots q k = record { many = k.many; is = λ s. ap (λ x. key_after x (key_in h s)) (q s) ∙ k.is s }

  pub keys_set : (slots : List (Option (List ℕ))) (i : ℕ) (o : Option (List ℕ)) → i < 8 → ((s : ℕ) → (s ≡ i → ⊥) → slot_deed e s ≡ AtSlot.leaves) → key_in (e ∷ h) i ≡ o → Keys h slots → Keys (e ∷ h) (set slots i o)
  keys_set slots i o i8 others here k =
      let p : i < length slots = omega (arith, k.many) in
      record {
        many = simp length-set k.many;
        is = λ s.
            ⊎_elim
            (λ (q : s ≡ i). subst (λ x. key_in (e ∷ h) x ≡ get_or (set slots i o) x None) (sym q) (here ∙ sym (get_or-set_same slots i o None p)))
            (λ (q : s ≡ i → ⊥). ap (λ x. key_after x (key_in h s)) (others s q) ∙ k.is s ∙ sym (get_or-set_other slots i s o None q))
            (cases_eq s i);
      }

  pub lanes_kept : (lanes : List (Option Opened)) → ((l : ℕ) → lane_deed e l ≡ AtLane.leaves) → Lanes h lanes → Lanes (e ∷ h) lanes
  lanes_kept lanes q k =
      record {
        many = k.many;
        each = λ l o is. Runs.kept e h l o.key o.bytes (q l) (k.each l o is);
        fed = λ l. ap (λ x. fed_more x (fed_bytes h l)) (q l) ∙ k.fed l;
      }

  pub lanes_set : (lanes : List (Option Opened)) (i : ℕ) (o : Option Opened) → i < 4 → ((l : ℕ) → (l ≡ i → ⊥) → lane_deed e l ≡ AtLane.leaves) → ((o' : Opened) → o ≡ Some o' → Runs (e ∷ h) i o'.key o'.bytes) → fed_bytes (e ∷ h) i ≡ fed_of o → Lanes h lanes → Lanes (e ∷ h) (set lanes i o)
  lanes_set lanes i o i4 others here length-here k =
      let p : i < length lanes = omega (arith, k.many) in
      record {
        many = simp length-set k.many;
        each = λ l o' is.
            ⊎_elim
            (λ (q : l ≡ i). subst (λ x. Runs (e ∷ h) x o'.key o'.bytes) (sym q) (here o' (sym (get_or-set_same lanes i o None p) ∙ ap (λ x. get_or (set lanes i o) x None) (sym q) ∙ is)))
            (λ (q : l ≡ i → ⊥). Runs.kept e h l o'.key o'.bytes (others l q) (k.each l o' (sym (get_or-set_other lanes i l o None q) ∙ is)))
            (cases_eq l i);
        fed = λ l.
            ⊎_elim
            (λ (q : l ≡ i). subst (λ x. fed_bytes (e ∷ h) x ≡ fed_of (get_or (set lanes i o) x None)) (sym q) (length-here ∙ ap fed_of (sym (get_or-set_same lanes i o None p))))
            (λ (q : l ≡ i → ⊥). ap (λ x. fed_more x (fed_bytes h l)) (others l q) ∙ k.fed l ∙ ap fed_of (sym (get_or-set_other lanes i l o None q)))
            (cases_eq l i);
      }

  count_is : (is : AtDesk → ℕ) (d : AtDesk) → desk_deed e ≡ d → count is (e ∷ h) ≡ is d + count is h
  count_is is d q = ap (λ x. is x + count is h) q

  taken_same : order_in e.answer ≡ None → (s : ℕ) → numbers_taken (e ∷ h) s ≡ numbers_taken h s
  taken_same none s = ap (λ x. number_given x s ++ numbers_taken h s) none

  sealed_same : frame_in e.answer ≡ None → (s : ℕ) → numbers_sealed (e ∷ h) s ≡ numbers_sealed h s
  sealed_same none s = ap (λ x. number_written x s ++ numbers_sealed h s) none

  -- books that no call of an order has touched
  books_same : (d d' : Desk) → d.taken ≡ d'.taken → d.carried ≡ d'.carried → d.declined ≡ d'.declined → d.hand ≡ d'.hand → d.level ≡ d'.level → desk_deed e ≡ AtDesk.leaves → Numbers (numbers_taken (e ∷ h)) d'.took → Numbers (numbers_sealed (e ∷ h)) d'.sealed → Books h d → Books (e ∷ h) d'
  books_same d d' dt dc dd dh dl q took sealed o =
      record {
        took = took;
        sealed = sealed;
        taken = sym dt ∙ o.taken ∙ sym (count_is is_take AtDesk.leaves q ∙ zero-add _);
        carried = sym dc ∙ o.carried ∙ sym (count_is is_carry AtDesk.leaves q ∙ zero-add _);
        declined = sym dd ∙ o.declined ∙ sym (count_is is_decline AtDesk.leaves q ∙ zero-add _);
        held = ap (λ x. order_after x (order_in e.answer) (order_held h)) q ∙ o.held ∙ dh;
        level = sym dl ∙ o.level ∙ sym (ap (λ x. level_after x (level_in h)) q);
      }

  pub books_kept : (d : Desk) → desk_deed e ≡ AtDesk.leaves → order_in e.answer ≡ None → frame_in e.answer ≡ None → Books h d → Books (e ∷ h) d
  books_kept d q none blank o =
      books_same d d refl refl refl refl refl q
      (numbers_kept (numbers_taken h) (numbers_taken (e ∷ h)) d.took (taken_same none) o.took)
      (numbers_kept (numbers_sealed h) (numbers_sealed (e ∷ h)) d.sealed (sealed_same blank) o.sealed)
      o

  -- a frame is sealed with the next number
  pub books_sealed : (d : Desk) (i : ℕ) → i < 8 → desk_deed e ≡ AtDesk.leaves → order_in e.answer ≡ None → ((s : ℕ) → number_written (frame_in e.answer) s ≡ cond (eqb i s) (next_number d i ∷ []) []) → eqb i i ≡ true → ((s : ℕ) → (s ≡ i → ⊥) → eqb i s ≡ false) → Books h d → Books (e ∷ h) (desk_sealed d i)
  books_sealed d i i8 q none writes self other o =
      books_same d (desk_sealed d i) refl refl refl refl refl q
      (numbers_kept (numbers_taken h) (numbers_taken (e ∷ h)) d.took (taken_same none) o.took)
      (numbers_more (numbers_sealed h) (numbers_sealed (e ∷ h)) d.sealed i (next_number d i) i8 (up (get_or d.sealed i 0))
      (ap (λ x. x ++ numbers_sealed h i) (writes i ∙ ap (λ b. cond b (next_number d i ∷ []) []) self))
      (λ s ne. ap (λ x. x ++ numbers_sealed h s) (writes s ∙ ap (λ b. cond b (next_number d i ∷ []) []) (other s ne)))
      o.sealed)
      o
    where
      up : (k : ℕ) → k < k + 1
      up k = omega arith

  -- an order is taken, with a number above the last
  pub books_taken : (d : Desk) (x : Fields) → x.slot < 8 → get_or d.took x.slot 0 < x.number → desk_deed e ≡ AtDesk.takes → order_in e.answer ≡ Some x → frame_in e.answer ≡ None → eqb x.slot x.slot ≡ true → ((s : ℕ) → (s ≡ x.slot → ⊥) → eqb x.slot s ≡ false) → Books h d → Books (e ∷ h) (desk_taken d x)
  books_taken d x i8 up q new blank self other o =
      record {
        took = numbers_more (numbers_taken h) (numbers_taken (e ∷ h)) d.took x.slot x.number i8 up
            (ap (λ y. number_given y x.slot ++ numbers_taken h x.slot) new ∙ ap (λ b. cond b (x.number ∷ []) [] ++ numbers_taken h x.slot) self)
            (λ s ne. ap (λ y. number_given y s ++ numbers_taken h s) new ∙ ap (λ b. cond b (x.number ∷ []) [] ++ numbers_taken h s) (other s ne))
            o.took;
        sealed = numbers_kept (numbers_sealed h) (numbers_sealed (e ∷ h)) d.sealed (sealed_same blank) o.sealed;
        taken = omega (arith, o.taken, count_is is_take AtDesk.takes q);
        carried = omega (arith, o.carried, count_is is_carry AtDesk.takes q);
        declined = omega (arith, o.declined, count_is is_decline AtDesk.takes q);
        held = ap (λ y. order_after y (order_in e.answer) (order_held h)) q ∙ new;
        level = o.level ∙ sym (ap (λ y. level_after y (level_in h)) q);
      }

  -- an order is spent
  pub books_carried : (d : Desk) (x : Fields) → desk_deed e ≡ AtDesk.carries x → order_in e.answer ≡ None → frame_in e.answer ≡ None → Books h d → Books (e ∷ h) (desk_carried d x)
  books_carried d x q none blank o =
      record {
        took = numbers_kept (numbers_taken h) (numbers_taken (e ∷ h)) d.took (taken_same none) o.took;
        sealed = numbers_kept (numbers_sealed h) (numbers_sealed (e ∷ h)) d.sealed (sealed_same blank) o.sealed;
        taken = omega (arith, o.taken, count_is is_take (AtDesk.carries x) q);
        carried = omega (arith, o.carried, count_is is_carry (AtDesk.carries x) q);
        declined = omega (arith, o.declined, count_is is_decline (AtDesk.carries x) q);
        held = ap (λ y. order_after y (order_in e.answer) (order_held h)) q;
        level = ap (λ y. cond (eqb x.kind 0) x.level y) o.level ∙ sym (ap (λ y. level_after y (level_in h)) q);
      }

  pub books_declined : (d : Desk) → desk_deed e ≡ AtDesk.declines → order_in e.answer ≡ None → frame_in e.answer ≡ None → Books h d → Books (e ∷ h) (desk_declined d)
  books_declined d q none blank o =
      record {
        took = numbers_kept (numbers_taken h) (numbers_taken (e ∷ h)) d.took (taken_same none) o.took;
        sealed = numbers_kept (numbers_sealed h) (numbers_sealed (e ∷ h)) d.sealed (sealed_same blank) o.sealed;
        taken = omega (arith, o.taken, count_is is_take AtDesk.declines q);
        carried = omega (arith, o.carried, count_is is_carry AtDesk.declines q);
        declined = omega (arith, o.declined, count_is is_decline AtDesk.declines q);
        held = ap (λ y. order_after y (order_in e.answer) (order_held h)) q;
        level = o.level ∙ sym (ap (λ y. level_after y (level_in h)) q);
      }

  module _ (f : Face) where
    -- the sum, where no lane changes
    pub cost_kept : (x : ℕ) → settled f h e.call e.answer ≡ x → ((l : ℕ) → lane_deed e l ≡ AtLane.leaves) → cost f (e ∷ h) ≡ cost f h + x
    cost_kept x q none =
        let same : (l : ℕ) → open_rounds f (e ∷ h) l ≡ open_rounds f h l = λ l. ap (λ y. held_rounds f (fed_more y (fed_bytes h l))) (none l) in
        omega (arith, q, same 0, same 1, same 2, same 3)

    -- the sum, where lane i changes
    pub cost_lane : (x i : ℕ) → i < 4 → settled f h e.call e.answer ≡ x → ((l : ℕ) → (l ≡ i → ⊥) → lane_deed e l ≡ AtLane.leaves) → cost f (e ∷ h) + open_rounds f h i ≡ cost f h + x + open_rounds f (e ∷ h) i
    cost_lane x i i4 q none =
        let z = four_change f (open_rounds f h) (open_rounds f (e ∷ h)) i i4 (λ l ne. ap (λ y. held_rounds f (fed_more y (fed_bytes h l))) (none l ne)) in
        omega (arith, q, z)
