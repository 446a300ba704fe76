-- The first no of a list of questions, part by part, and the questions on a frame. Assumes nothing.
use Rattle.std.proofs.Common.{◌≡◌, ℕ, ◌+◌, ◌<◌, ◌≤◌, Bool, true, false, cond, not, ltb, leb, List, [], ◌∷◌, ◌++◌, get_or, is_some, Some, None, Ok, Err, Option, Result, sym, refl, ap, ◌∙◌, subst, arith, ltb-true, leb-true}
use Rattle.refusals.specs.declared.Refusal.{Refusal}
use Rattle.refusals.specs.declared.Refusal.TheVariants.{OrderInHand, SlotEmpty, Address, MessageLength, OldNumber}
use Rattle.refusals.specs.Questions.{Question, first_refusal}
use Rattle.mac.specs.Face.{Face}
use Rattle.mac.specs.declared.KeyRecord.{KeyRecord}
use Rattle.frame.specs.declared.Header.{Header}
use Rattle.frame.specs.declared.Record.{Record}
use Rattle.frame.specs.Layout.{header_of, Fitting}
use Rattle.frame.specs.Reading.{questions, header_in, reads, told, refused, ReadOf}
use Rattle.frame.proofs.Read.{read_ok, read_refused}
use Rattle.node.specs.declared.desk.Fields.{Fields}
use Rattle.node.specs.Asking.{frame_q, addressed}
use Rattle.node.specs.Calls.{order_of}
use Rattle.node.specs.Taking.{further, fields_in, Answered, AskedFrame}

-- the first no of a question and the rest, where the rest is known
pass_one : (b : Bool) (r : Refusal) (x z y : Option Refusal) → (x ≡ None → z ≡ y) → cond b x (Some r) ≡ None → cond b z (Some r) ≡ y
pass_one true r x z y go e = go e
pass_one false r x z y go e = let w : ◌≡◌ {A = ℕ} 0 1 = cc in absurd (omega (arith, w))

stop_one : (b : Bool) (r : Refusal) (x z y : Option Refusal) → (x ≡ y → z ≡ y) → cond b x (Some r) ≡ y → cond b z (Some r) ≡ y
stop_one true r x z y go e = go e
stop_one false r x z y go e = e

-- where the first part has no no, the second decides
pub passed : (xs ys : List Question) → first_refusal xs ≡ None → first_refusal (xs ++ ys) ≡ first_refusal ys
passed [] ys e = refl
passed (q ∷ xs) ys e = pass_one q.passes q.refusal (first_refusal xs) (first_refusal (xs ++ ys)) (first_refusal ys) (passed xs ys) e

pub stopped : (xs ys : List Question) (f : Refusal) → first_refusal xs ≡ Some f → first_refusal (xs ++ ys) ≡ Some f
stopped [] ys f e = let z : ◌≡◌ {A = ℕ} 0 1 = cc in absurd (omega (arith, z))
stopped (q ∷ xs) ys f e = stop_one q.passes q.refusal (first_refusal xs) (first_refusal (xs ++ ys)) (Some f) (stopped xs ys f) e

-- a list of questions without a no has none in its first part
pub left_part : (xs ys : List Question) → first_refusal (xs ++ ys) ≡ None → first_refusal xs ≡ None
left_part [] ys e = refl
left_part (q ∷ xs) ys e = stop_one q.passes q.refusal (first_refusal (xs ++ ys)) (first_refusal xs) None (left_part xs ys) e

-- a question that is not the first no
pub answered : (b : Bool) (o : Option Refusal) (f : Refusal) → cond b o (Some f) ≡ None → (b ≡ true) × (o ≡ None)
answered true o f e = (refl, e)
answered false o f e = let z : ◌≡◌ {A = ℕ} 0 1 = cc in absurd (omega (arith, z))

module _ (f : Face) (hand : Option Fields) (frame : List ℕ) (t own last : ℕ) (key : Option (List ℕ)) where
  abbrev asked : Option Refusal
  asked = first_refusal (frame_q f hand frame t own key last)

  module _ (idle : is_some hand ≡ false) where
    opened : asked ≡ first_refusal (questions frame t ++ further f (is_some key) own (header_of frame).address (header_of frame).size last (header_of frame).number)
    opened = ap (λ (b : Bool). cond (not b) (first_refusal (questions frame t ++ further f (is_some key) own (header_of frame).address (header_of frame).size last (header_of frame).number)) (Some OrderInHand)) idle

    pub unread : (e : Refusal) → refused e ≡ reads frame t → asked ≡ Some e
    unread e r = opened ∙ stopped (questions frame t) _ e (read_refused frame t e r)

    -- what follows the reader's questions decides
    pub read_on : (held : Bool) (o : Fields) (address : ℕ) (x : Option Refusal) → is_some key ≡ held → o ≡ order_of frame → address ≡ (header_of frame).address → first_refusal (questions frame t) ≡ None →
        first_refusal (further f held own address o.size last o.number) ≡ x → asked ≡ x
    read_on held o address x k is a passes decided =
        opened
        ∙ passed (questions frame t) _ passes
        ∙ ap (λ (b : Bool). first_refusal (further f b own (header_of frame).address (header_of frame).size last (header_of frame).number)) k
        ∙ ap (λ (b : ℕ). first_refusal (further f held own b (header_of frame).size last (header_of frame).number)) (sym a)
        ∙ ap (λ (b : Fields). first_refusal (further f held own address b.size last b.number)) (sym is)
        ∙ decided

pub same_fields : (frame : List ℕ) (t : ℕ) (r : Record) → ReadOf frame t r → fields_in r ≡ order_of frame
same_fields frame t r h i = record {
  slot = (h.header i).slot;
  number = (h.header i).number;
  kind = (h.header i).kind;
  level = h.level i;
  place = 8;
  size = (h.header i).size;
}

-- the answer of the node's questions on a frame, by those that follow the reader's
module _ (f : Face) (hand : Option Fields) (frame : List ℕ) (t own : ℕ) (slots : List (Option KeyRecord)) (took : List ℕ) where
  abbrev Owed : Result (Fields × KeyRecord) Refusal → Type 0
  Owed = AskedFrame f hand frame t own slots took

  module _ (idle : is_some hand ≡ false) where
    pub asks_unread : (e : Refusal) → refused e ≡ reads frame t → Owed (Err e)
    asks_unread e r = λ key _. unread f hand frame t own (get_or took (header_of frame).slot 0) key idle e r

    module _ (r : Record) (o : Fields) (address : ℕ) (read : told r ≡ reads frame t) (fit : Fitting (header_in r)) (is : o ≡ fields_in r) (a : address ≡ (header_in r).address) where
      abbrev Told_on : Fields → Result KeyRecord Refusal → Type 0
      Told_on x res = Answered (first_refusal (further f (is_some (get_or slots x.slot None)) own address x.size (get_or took x.slot 0) x.number)) (get_or slots x.slot None) res

      parts_read : ReadOf frame t r
      parts_read = read_ok frame t r read

      order_is : o ≡ order_of frame
      order_is = is ∙ same_fields frame t r parts_read

      address_is : address ≡ (header_of frame).address
      address_is = a ∙ ap (λ (h : Header). h.address) parts_read.header

      pub asks_no : (e : Refusal) → Told_on o (Err e) → Owed (Err e)
      asks_no e ans =
          let on = subst (λ (x : Fields). Told_on x (Err e)) order_is ans in
          λ key same. read_on f hand frame t own (get_or took (header_of frame).slot 0) key idle _ (order_of frame) address (Some e) same refl address_is parts_read.passes on

      pub asks_all : (k : KeyRecord) → Told_on o (Ok k) → Owed (Ok (o, k))
      asks_all k ans =
          let on = subst (λ (x : Fields). Told_on x (Ok k)) order_is ans in (
            λ key same. read_on f hand frame t own (get_or took (header_of frame).slot 0) key idle _ (order_of frame) address None same refl address_is parts_read.passes on.0,
            order_is,
            on.1,
            subst (λ (h : Header). h.number < 4294967296) parts_read.header fit.number,
          )

-- what is known of a frame with no no
pub record Fine (f : Face) (hand : Option Fields) (frame : List ℕ) (t own last : ℕ) (key : Option (List ℕ)) : Type 0 where
  pub idle : hand ≡ None
  pub reads : first_refusal (questions frame t) ≡ None
  pub short : 8 + (header_of frame).size ≤ f.row.message
  pub fresh : last < (header_of frame).number

none_of : (h : Option Fields) → not (is_some h) ≡ true → h ≡ None
none_of None e = refl
none_of (Some o) e = let z : ◌≡◌ {A = ℕ} 0 1 = cc in absurd (omega (arith, z))

pub fine : (f : Face) (hand : Option Fields) (frame : List ℕ) (t own last : ℕ) (key : Option (List ℕ)) → first_refusal (frame_q f hand frame t own key last) ≡ None → Fine f hand frame t own last key
fine f hand frame t own last key e =
    let more = further f (is_some key) own (header_of frame).address (header_of frame).size last (header_of frame).number in
    let a = answered (not (is_some hand)) (first_refusal (questions frame t ++ more)) OrderInHand e in
    let q = left_part (questions frame t) more a.1 in
    let m : first_refusal more ≡ None = sym (passed (questions frame t) more q) ∙ a.1 in
    let b = answered (is_some key) _ SlotEmpty m in
    let c = answered (addressed own (header_of frame).address) _ Address b.1 in
    let d = answered (leb (8 + (header_of frame).size) f.row.message) _ MessageLength c.1 in
    let g = answered (ltb last (header_of frame).number) _ OldNumber d.1 in
    record { idle = none_of hand a.0; reads = q; short = leb-true _ _ d.0; fresh = ltb-true _ _ g.0 }
