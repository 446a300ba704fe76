-- Take. Assumes nothing.
use Rattle.std.proofs.Common.{◌≡◌, ℕ, ◌+◌, ◌^◌, ◌<◌, ◌≤◌, Bool, true, false, List, [], length, get_or, is_some, IsErrAnd, Some, None, Ok, Err, Option, Result, unwrap_or, sym, refl, ap, ◌∙◌, subst, arith}
use Rattle.std.specs.Str.{bytes_eq}
use Rattle.hash.specs.Meter.{after}
use Rattle.refusals.specs.declared.Refusal.{Refusal}
use Rattle.refusals.specs.declared.Refusal.TheVariants.{WrongTag}
use Rattle.refusals.specs.Questions.{first_refusal}
use Rattle.mac.specs.Face.{Face, within}
use Rattle.mac.specs.declared.KeyRecord.{KeyRecord}
use Rattle.frame.specs.Layout.{header_of, signed_part, tag_in}
use Rattle.frame.specs.Sealing.{Parted}
use Rattle.frame.proofs.Bytes.{slot_fits}
use Rattle.frame.proofs.Law.{parts}
use Rattle.node.specs.declared.Node.{Node}
use Rattle.node.specs.declared.desk.Desk.{Desk}
use Rattle.node.specs.declared.desk.Fields.{Fields}
use Rattle.node.specs.declared.order.Order.{Order}
use Rattle.node.specs.Orders.{given}
use Rattle.node.specs.Model.{Model, refused, unless, key_at}
use Rattle.node.specs.Asking.{frame_q}
use Rattle.node.specs.Calls.{take_frame, tried, right_tag, order_of, desk_taken}
use Rattle.node.specs.Stands.{Stands, Told}
use Rattle.node.specs.Taking.{AskedFrame, Signed}
use Rattle.node.proofs.Steps.{slot_same, key_held, hash_moved, hash_free}
use Rattle.node.proofs.Counts.{taken_few, taken_sound}
use Rattle.node.proofs.Ends.{desk_written, desk_put}
use Rattle.node.proofs.Asked.{Fine, fine}

-- a refusal is one whatever an order would be
pub given_err : (r : Result Order Refusal) (e : Refusal) → IsErrAnd r (λ d. d ≡ e) → IsErrAnd (given r) (λ d. d ≡ e)
given_err (Ok o) e is = is
given_err (Err d) e is = is

module _ {H A : Type 0} (next : H → H) (f : Face) (n : Node H A) (m : Model) (st : Stands next f n m) (frame : List ℕ) where
  abbrev slot : ℕ
  slot = (header_of frame).slot

  abbrev asked_of : Desk → ℕ → ℕ → Option (List ℕ) → Option Refusal
  asked_of d t own key = first_refusal (frame_q f d.hand frame t own key (get_or d.took slot 0))

  -- the questions of the node are those of what it stands for
  pub frame_asked : (x : Option Refusal) → ((key : Option (List ℕ)) → is_some key ≡ is_some (get_or n.slots slot None) → asked_of n.desk n.t n.address key ≡ x) → asked_of m.desk m.t m.address (key_at m slot) ≡ x
  frame_asked x asked =
      let key = key_at m slot in
      let there = asked key (slot_same f _ _ (st.slot slot None (slot_fits frame))) in
      ap (λ (d : Desk). asked_of d m.t m.address key) (sym st.desk)
      ∙ ap (λ (t : ℕ). asked_of n.desk t m.address key) (sym st.t)
      ∙ ap (λ (a : ℕ). asked_of n.desk n.t a key) (sym st.address)
      ∙ there

  pub take_refused : (e : Refusal) → AskedFrame f n.desk.hand frame n.t n.address n.slots n.desk.took (Err e) → take_frame f m frame ≡ refused m e
  unfolding take_frame
  take_refused e asked = ap (λ (x : Option Refusal). unless x m (tried f m frame (right_tag f m frame))) (frame_asked (Some e) asked)

  module _ (ready : n.refusal ≡ None) (o : Fields) (r : KeyRecord) (asked : AskedFrame f n.desk.hand frame n.t n.address n.slots n.desk.took (Ok (o, r)))
      (h1 : H) (b : Bool) (signed : Signed next f n.hash h1 r frame b) where
    none : asked_of m.desk m.t m.address (key_at m slot) ≡ None
    none = frame_asked None asked.0

    good : Fine f m.desk.hand frame m.t m.address (get_or m.desk.took slot 0) (key_at m slot)
    good = fine f m.desk.hand frame m.t m.address (get_or m.desk.took slot 0) (key_at m slot) none

    cut : Parted frame m.t
    cut = parts frame m.t good.reads

    known : (right_tag f m frame ≡ b) × (h1 ≡ after next n.hash (f.whole (8 + (header_of frame).size)))
    known =
        let key = key_held next f n m st slot r (slot_fits frame) asked.2 in
        let fits : within f.row.tag (length (tag_in frame)) ≡ true = ap (within f.row.tag) cut.tag ∙ st.fits (sym st.refusal ∙ ready) in
        let j = signed key.0 key.2 fits (omega (arith, cut.signed, good.short)) in (
          ap (λ (k : Option (List ℕ)). bytes_eq (tag_in frame) (f.tag (unwrap_or k []) (signed_part frame) m.t)) key.1
              ∙ ap (λ (t : ℕ). bytes_eq (tag_in frame) (f.tag key.0 (signed_part frame) t)) (sym cut.tag)
              ∙ sym j.0,
          j.1 ∙ ap (λ (i : ℕ). after next n.hash (f.whole i)) cut.signed,
        )

    call_is : (v : Bool) → b ≡ v → take_frame f m frame ≡ tried f m frame v
    unfolding take_frame
    call_is v e = ap (λ (x : Option Refusal). unless x m (tried f m frame (right_tag f m frame))) none ∙ ap (tried f m frame) (known.0 ∙ e)

    pub takes_wrong : b ≡ false → Told next f n (hash_moved next f n m st h1) (Err WrongTag) (take_frame f m frame)
    unfolding take_frame
    takes_wrong e = subst (Told next f n (hash_moved next f n m st h1) (Err WrongTag)) (sym (call_is false e)) (record { answer = refl; model = hash_free next f n m st h1; meter = known.1 })

    pub takes : (d : Desk) → b ≡ true → (n.desk.taken + 1 < 2 ^ 64 → d ≡ desk_taken n.desk o) → Told next f n (desk_written next f n m st h1 d) (Ok o) (take_frame f m frame)
    unfolding take_frame
    takes d e made =
        let few : n.desk.taken + 1 < 2 ^ 64 = subst (λ (x : Desk). x.taken + 1 < 2 ^ 64) (sym st.desk) (omega (arith, taken_few m.desk st.sound)) in
        subst (Told next f n (desk_written next f n m st h1 d) (Ok o)) (sym (call_is true e))
        (record {
          answer = ap Ok asked.1;
          model = desk_put next f n m st h1 d (desk_taken m.desk (order_of frame))
              (made few ∙ ap (λ (x : Desk). desk_taken x o) st.desk ∙ ap (desk_taken m.desk) asked.1)
              (taken_sound m.desk st.sound (order_of frame) good.idle (slot_fits frame) good.fresh asked.3);
          meter = known.1;
        })

pub taken_slot : (f : Face) (hand : Option Fields) (frame : List ℕ) (t own : ℕ) (slots : List (Option KeyRecord)) (took : List ℕ) (o : Fields) (r : KeyRecord) → AskedFrame f hand frame t own slots took (Ok (o, r)) → o.slot < 8
taken_slot f hand frame t own slots took o r asked = subst (λ (x : Fields). x.slot < 8) (sym asked.1) (slot_fits frame)

-- some key or none, as a record is there or not
key_there : (x : Option KeyRecord) → (k : Option (List ℕ)) × (is_some k ≡ is_some x)
key_there None = (None, refl)
key_there (Some r) = (Some [], refl)

pub taken_number : (f : Face) (hand : Option Fields) (frame : List ℕ) (t own : ℕ) (slots : List (Option KeyRecord)) (took : List ℕ) (o : Fields) (r : KeyRecord) → AskedFrame f hand frame t own slots took (Ok (o, r)) → 1 ≤ o.number
taken_number f hand frame t own slots took o r asked =
    let key = key_there (get_or slots (header_of frame).slot None) in
    let good = fine f hand frame t own (get_or took (header_of frame).slot 0) key.0 (asked.0 key.0 key.1) in
    subst (λ (x : Fields). 1 ≤ x.number) (sym asked.1) (omega (arith, good.fresh))
