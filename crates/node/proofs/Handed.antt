-- A frame that was sealed is taken by a node that is ready for it. Assumes nothing.
use Rattle.std.proofs.Common.{◌≡◌, ℕ, ◌+◌, ◌<◌, ◌≤◌, min, Bool, true, cond, not, eqb, ltb, leb, List, [], ◌∷◌, ◌++◌, length, get_or, take, drop, is_some, Some, None, Ok, Option, Result, unwrap_or, sym, refl, ap, ◌∙◌, subst, append_assoc, arith, length-append, ltb-true, lt-ltb, le-leb, leb-true}
use Rattle.std.proofs.lemmas.List.{take_at}
use Rattle.std.specs.Str.{bytes_eq}
use Rattle.std.proofs.lemmas.Slice.Eq.{bytes_eq-Decides}
use Rattle.refusals.specs.declared.Refusal.{Refusal}
use Rattle.refusals.specs.declared.Refusal.TheVariants.{NoSlot, SlotEmpty, MessageLength, NumbersSpent, Room, OrderInHand, Address, OldNumber}
use Rattle.refusals.specs.Questions.{Question, asks, first_refusal}
use Rattle.mac.specs.Face.{Face, within}
use Rattle.frame.specs.declared.Header.{Header}
use Rattle.frame.specs.Layout.{header_of, bytes_of_header, body_of, signed_part}
use Rattle.frame.specs.Reading.{body_questions, questions}
use Rattle.frame.specs.Sealing.{header_for, ReadBack}
use Rattle.frame.proofs.Law.{sealed, sealable}
use Rattle.frame.proofs.Bytes.{header_length}
use Rattle.node.specs.Model.{Model, After, key_at, unless}
use Rattle.node.specs.Asking.{seal_q, frame_q, addressed}
use Rattle.node.specs.Calls.{guarded, seal, next_number, sealed_front, sealed_frame, take_frame, tried, right_tag, order_of}
use Rattle.node.specs.Handing.{Ready, ordered}
use Rattle.node.proofs.Asked.{passed, left_part, answered}

-- what an accepted sealing passed
pub record Passed (f : Face) (slot : ℕ) (key : Option (List ℕ)) (kind : ℕ) (body : List ℕ) (last t room : ℕ) : Type 0 where
  pub slot8 : slot < 8
  pub held : is_some key ≡ true
  pub right : first_refusal (body_questions kind body) ≡ None
  pub short : 8 + length body ≤ f.row.message
  pub more : last < 4294967295
  pub fits : 8 + length body + t ≤ room

pub sealing_passed : (f : Face) (slot : ℕ) (key : Option (List ℕ)) (kind : ℕ) (body : List ℕ) (last t room : ℕ) → first_refusal (seal_q f slot key kind body last t room) ≡ None → Passed f slot key kind body last t room
sealing_passed f slot key kind body last t room e =
    let A : List Question = asks (ltb slot 8) NoSlot ∷ asks (is_some key) SlotEmpty ∷ [] in
    let B : List Question = body_questions kind body in
    let C : List Question = asks (leb (8 + length body) f.row.message) MessageLength ∷ asks (ltb last 4294967295) NumbersSpent ∷ asks (leb (8 + length body + t) room) Room ∷ [] in
    let a : first_refusal A ≡ None = left_part A (B ++ C) e in
    let bc : first_refusal (B ++ C) ≡ None = sym (passed A (B ++ C) a) ∙ e in
    let b : first_refusal B ≡ None = left_part B C bc in
    let c : first_refusal C ≡ None = sym (passed B C b) ∙ bc in
    let a1 = answered (ltb slot 8) (cond (is_some key) None (Some SlotEmpty)) NoSlot a in
    let a2 = answered (is_some key) None SlotEmpty a1.1 in
    let c1 = answered (leb (8 + length body) f.row.message) (cond (ltb last 4294967295) (cond (leb (8 + length body + t) room) None (Some Room)) (Some NumbersSpent)) MessageLength c in
    let c2 = answered (ltb last 4294967295) (cond (leb (8 + length body + t) room) None (Some Room)) NumbersSpent c1.1 in
    let c3 = answered (leb (8 + length body + t) room) None Room c2.1 in
    record {
      slot8 = ltb-true slot 8 a1.0;
      held = a2.0;
      right = b;
      short = leb-true (8 + length body) f.row.message c1.0;
      more = ltb-true last 4294967295 c2.0;
      fits = leb-true (8 + length body + t) room c3.0;
    }

-- a frame that passes every question is taken as its order
takes_it : (f : Face) (l : Model) (frame : List ℕ) → first_refusal (frame_q f l.desk.hand frame l.t l.address (key_at l (header_of frame).slot) (get_or l.desk.took (header_of frame).slot 0)) ≡ None →
    right_tag f l frame ≡ true → (take_frame f l frame).answer ≡ Ok (order_of frame)
unfolding take_frame
takes_it f l frame e r =
    ap (λ (o : Option Refusal). (unless o l (tried f l frame (right_tag f l frame))).answer) e ∙ ap (λ (b : Bool). (tried f l frame b).answer) r

module _ (f : Face) (c l : Model) (slot kind address : ℕ) (body : List ℕ) (ready : Ready c l slot address) where
  module _ (frame : List ℕ) (back : ReadBack (header_for slot kind address (next_number c.desk slot) body) body (f.tag (unwrap_or (key_at c slot) []) (sealed_front f c slot kind body address) c.t) frame c.t)
      (held : is_some (key_at c slot) ≡ true) (short : 8 + length body ≤ f.row.message) where
    here : (header_of frame).slot ≡ slot
    here = ap (λ (h : Header). h.slot) back.header

    key_there : key_at l (header_of frame).slot ≡ key_at c slot
    key_there = ap (key_at l) here ∙ ready.key

    asked : first_refusal (frame_q f l.desk.hand frame l.t l.address (key_at l (header_of frame).slot) (get_or l.desk.took (header_of frame).slot 0)) ≡ None
    asked =
        let B : List Question = questions frame l.t in
        let C : List Question =
        asks (is_some (key_at l (header_of frame).slot)) SlotEmpty ∷ asks (addressed l.address (header_of frame).address) Address ∷
        asks (leb (8 + (header_of frame).size) f.row.message) MessageLength ∷ asks (ltb (get_or l.desk.took (header_of frame).slot 0) (header_of frame).number) OldNumber ∷ [] in
        let first : first_refusal (asks (not (is_some l.desk.hand)) OrderInHand ∷ []) ≡ None = rw ready.idle in
        let reads : first_refusal B ≡ None = ap (λ (t : ℕ). first_refusal (questions frame t)) ready.t ∙ back.passes in
        let c1 : is_some (key_at l (header_of frame).slot) ≡ true = ap is_some key_there ∙ held in
        let c2 : addressed l.address (header_of frame).address ≡ true = ap (λ (h : Header). addressed l.address h.address) back.header ∙ ready.to in
        let size : (header_of frame).size ≡ length body = ap (λ (h : Header). h.size) back.header in
        let c3 : leb (8 + (header_of frame).size) f.row.message ≡ true = le-leb (8 + (header_of frame).size) f.row.message (omega arith) in
        let last : get_or l.desk.took (header_of frame).slot 0 ≡ get_or l.desk.took slot 0 = ap (λ (s : ℕ). get_or l.desk.took s 0) here in
        let num : (header_of frame).number ≡ next_number c.desk slot = ap (λ (h : Header). h.number) back.header in
        let low = ready.lower in
        let c4 : ltb (get_or l.desk.took (header_of frame).slot 0) (header_of frame).number ≡ true = lt-ltb (get_or l.desk.took (header_of frame).slot 0) (header_of frame).number (omega arith) in
        passed (asks (not (is_some l.desk.hand)) OrderInHand ∷ []) (B ++ C) first ∙ passed B C reads ∙ (rw (c1, c2, c3, c4))

    right : right_tag f l frame ≡ true
    right =
        let T : List ℕ = f.tag (unwrap_or (key_at c slot) []) (sealed_front f c slot kind body address) c.t in
        let same : f.tag (unwrap_or (key_at l (header_of frame).slot) []) (signed_part frame) l.t ≡ T =
        ap (λ (k : Option (List ℕ)). f.tag (unwrap_or k []) (signed_part frame) l.t) key_there
        ∙ ap (λ (xs : List ℕ). f.tag (unwrap_or (key_at c slot) []) xs l.t) back.signed
        ∙ ap (f.tag (unwrap_or (key_at c slot) []) (sealed_front f c slot kind body address)) ready.t in
        ap (λ (xs : List ℕ). bytes_eq xs (f.tag (unwrap_or (key_at l (header_of frame).slot) []) (signed_part frame) l.t)) back.tag
        ∙ ap (bytes_eq T) same ∙ (bytes_eq-Decides T T).1 refl

    order_is : order_of frame ≡ ordered c slot kind body
    order_is =
        ap (λ (h : Header). record { slot = h.slot; number = h.number; kind = h.kind; level = cond (eqb h.kind 0) (get_or (body_of frame) 0 0) 0; place = 8; size = h.size }) back.header
        ∙ ap (λ (b : List ℕ). record { slot = slot; number = next_number c.desk slot; kind = kind; level = cond (eqb kind 0) (get_or b 0 0) 0; place = 8; size = length body }) back.body

    taken_frame : (take_frame f l frame).answer ≡ Ok (ordered c slot kind body)
    unfolding take_frame
    taken_frame = takes_it f l frame asked right ∙ ap Ok order_is

  -- what is sealed is taken as the command sealed
  pub sealed_taken : (room : ℕ) → address < 65536 → length (f.tag (unwrap_or (key_at c slot) []) (sealed_front f c slot kind body address) c.t) ≡ c.t →
      first_refusal (seal_q f slot (key_at c slot) kind body (get_or c.desk.sealed slot 0) c.t room) ≡ None →
      (take_frame f l (sealed_frame f c slot kind body address)).answer ≡ Ok (ordered c slot kind body)
  unfolding take_frame
  sealed_taken room a16 long e =
      let p = sealing_passed f slot (key_at c slot) kind body (get_or c.desk.sealed slot 0) c.t room e in
      let more = p.more in
      let h = header_for slot kind address (next_number c.desk slot) body in
      let T : List ℕ = f.tag (unwrap_or (key_at c slot) []) (sealed_front f c slot kind body address) c.t in
      let ok = sealable slot kind address (next_number c.desk slot) body p.slot8 a16 (omega arith) p.right in
      let back = sealed h body T c.t ok long in
      let whole : bytes_of_header h ++ (body ++ T) ≡ sealed_frame f c slot kind body address = sym (append_assoc (bytes_of_header h) body T) in
      taken_frame (sealed_frame f c slot kind body address) (subst (λ (x : List ℕ). ReadBack h body T x c.t) whole back) p.held p.short

-- an accepted answer, behind a refusal that there might have been
opened : {X : Type 0} (o : Option Refusal) (m : Model) (y : After X) (x : X) → Ok x ≡ (unless o m y).answer → (o ≡ None) × (Ok x ≡ y.answer)
unfolding seal take_frame
opened None m y x e = (refl, e)
opened (Some q) m y x e = absurd (let z : ◌≡◌ {A = ℕ} 0 1 = cc in omega arith)

module _ (f : Face) (c : Model) (slot kind address n : ℕ) (body out0 out1 frame : List ℕ)
    (sized : (k b : List ℕ) (t : ℕ) → within f.row.tag t ≡ true → length (f.tag k b t) ≡ t) (fits : c.refusal ≡ None → within f.row.tag c.t ≡ true)
    (isN : Ok n ≡ (guarded c (seal f c slot kind body (length out0))).answer) where
  S : List ℕ
  S = sealed_frame f c slot kind body address

  front : List ℕ
  front = sealed_front f c slot kind body address

  none : c.refusal ≡ None
  unfolding seal
  none = (opened c.refusal c (seal f c slot kind body (length out0)) n isN).0

  asked_all : (first_refusal (seal_q f slot (key_at c slot) kind body (get_or c.desk.sealed slot 0) c.t (length out0)) ≡ None) × (◌≡◌ {A = Result ℕ Refusal} (Ok n) (Ok (8 + length body + c.t)))
  unfolding seal
  asked_all = opened (first_refusal (seal_q f slot (key_at c slot) kind body (get_or c.desk.sealed slot 0) c.t (length out0))) c _ n (opened c.refusal c (seal f c slot kind body (length out0)) n isN).1

  tag_long : length (f.tag (unwrap_or (key_at c slot) []) front c.t) ≡ c.t
  tag_long = sized (unwrap_or (key_at c slot) []) front c.t (fits none)

  -- the frame that was sealed, cut from the place that it was written to
  pub cut_out : out1 ≡ sealed_frame f c slot kind body address ++ drop (length (sealed_frame f c slot kind body address)) out0 → frame ≡ take (min n (length out1)) out1 → frame ≡ sealed_frame f c slot kind body address
  unfolding S front
  cut_out isOut isFrame =
      let size : n ≡ 8 + length body + c.t = let e = asked_all.1 in cc in
      let T : List ℕ = f.tag (unwrap_or (key_at c slot) []) front c.t in
      let long : length T ≡ c.t = tag_long in
      let h = header_for slot kind address (next_number c.desk slot) body in
      let eight = header_length h in
      let frontLong : length front ≡ 8 + length body = length-append (bytes_of_header h) body ∙ ap (λ (i : ℕ). i + length body) eight in
      let whole : length S ≡ n = length-append front T ∙ (omega arith) in
      let outLong : length out1 ≡ length S + length (drop (length S) out0) = ap length isOut ∙ length-append S (drop (length S) out0) in
      let place : min n (length out1) ≡ length S = omega arith in
      isFrame ∙ ap (λ (i : ℕ). take i out1) place ∙ ap (take (length S)) isOut ∙ take_at S (drop (length S) out0) (length S) refl

  pub handed : (l : Model) → address < 65536 → Ready c l slot address → (guarded l (take_frame f l (sealed_frame f c slot kind body address))).answer ≡ Ok (ordered c slot kind body)
  unfolding S front
  handed l a16 ready =
      ap (λ (o : Option Refusal). (unless o l (take_frame f l S)).answer) ready.made
      ∙ sealed_taken f c l slot kind address body ready (length out0) a16 tag_long asked_all.0
