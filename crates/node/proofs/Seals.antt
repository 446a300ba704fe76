-- Seal. Assumes nothing.
use Rattle.std.proofs.Common.{◌≡◌, ℕ, ◌+◌, ◌^◌, ◌<◌, min, Bool, true, cond, List, [], ◌++◌, length, get_or, take, drop, is_some, Some, None, Ok, Err, Option, Result, unwrap_or, sym, ap, ◌∙◌, subst, append_assoc, arith, length-append, length-drop, le-leb}
use Rattle.std.proofs.lemmas.List.{take_at, drop_at, drop-drop}
use Rattle.hash.specs.Meter.{after}
use Rattle.refusals.specs.declared.Refusal.{Refusal}
use Rattle.refusals.specs.Questions.{first_refusal}
use Rattle.mac.specs.Face.{Face, within}
use Rattle.mac.specs.declared.KeyRecord.{KeyRecord}
use Rattle.frame.specs.Layout.{bytes_of_header}
use Rattle.frame.specs.Sealing.{header_for, fits_within, front_laid}
use Rattle.frame.proofs.Bytes.{header_length}
use Rattle.node.specs.declared.Node.{Node}
use Rattle.node.specs.declared.desk.Desk.{Desk}
use Rattle.node.specs.Model.{Model, After, accepted, refused, unless, key_at, with_desk}
use Rattle.node.specs.Asking.{command_q}
use Rattle.node.specs.Calls.{seal, sealed_frame, next_number, desk_sealed}
use Rattle.node.specs.Stands.{Stands, Told}
use Rattle.node.specs.Taking.{sealing, AskedSeal, Behind}
use Rattle.node.proofs.Steps.{key_held, slot_asked}
use Rattle.node.proofs.Counts.{sealed_sound}
use Rattle.node.proofs.Ends.{desk_written, desk_put}

module _ {H A : Type 0} (next : H → H) (f : Face) (n : Node H A) (m : Model) (st : Stands next f n m) (slot kind address : ℕ) (body out0 : List ℕ) where
  abbrev room : ℕ
  room = length out0

  abbrev asked_of : Bool → Desk → ℕ → Option Refusal
  asked_of keyed d t = first_refusal (sealing f slot keyed kind body (get_or d.sealed slot 0) t room)

  -- the questions of the node are those of what it stands for
  seal_asked : asked_of (is_some (key_at m slot)) m.desk m.t ≡ asked_of (is_some (get_or n.slots slot None)) n.desk n.t
  seal_asked =
      ap (λ (d : Desk). asked_of (is_some (key_at m slot)) d m.t) (sym st.desk)
      ∙ ap (λ (t : ℕ). asked_of (is_some (key_at m slot)) n.desk t) (sym st.t)
      ∙ slot_asked next f n m st slot (command_q f kind body (get_or n.desk.sealed slot 0) n.t room)

  abbrev done : After ℕ
  done = accepted (8 + length body + m.t) (with_desk m (desk_sealed m.desk slot)) (f.whole (8 + length body))

  pub seal_refused : (e : Refusal) → AskedSeal f slot kind body n.t room n.slots n.desk.sealed (Err e) → seal f m slot kind body room ≡ refused m e
  unfolding seal
  seal_refused e asked = ap (λ (x : Option Refusal). unless x m done) (seal_asked ∙ asked)

  abbrev front : ℕ → List ℕ
  front number = bytes_of_header (header_for slot kind address number body) ++ body

  front_long : (number : ℕ) → length (front number) ≡ 8 + length body
  unfolding seal
  front_long number = length-append (bytes_of_header (header_for slot kind address number body)) body ∙ omega (arith, header_length (header_for slot kind address number body))

  module _ (sized : (k b : List ℕ) (t : ℕ) → within f.row.tag t ≡ true → length (f.tag k b t) ≡ t) (ready : n.refusal ≡ None) (r : KeyRecord)
      (asked : AskedSeal f slot kind body n.t room n.slots n.desk.sealed (Ok r)) (number : ℕ) (is_number : number ≡ min (get_or n.desk.sealed slot 0 + 1) 4294967295)
      (out1 : List ℕ) (laid : out1 ≡ front_laid slot kind address number body out0) (out2 : List ℕ) (h1 : H) (tagged : Result Unit Refusal) (behind : Behind next f n.hash h1 r n.t (8 + length body) out1 out2 tagged)
      (d : Desk) (made : get_or n.desk.sealed slot 0 + 1 < 2 ^ 32 → d ≡ desk_sealed n.desk slot) where
    abbrev size : ℕ
    size = 8 + length body

    fits : within f.row.tag m.t ≡ true
    fits = st.fits (sym st.refusal ∙ ready)

    fits_in : fits_within body out0 ≡ true
    fits_in = rw (le-leb (length body) 255 asked.3, le-leb (8 + length body) room (omega (arith, asked.4)))

    front_first : out1 ≡ front number ++ drop size out0
    front_first =
        laid
        ∙ ap (λ (b : Bool). cond b (bytes_of_header (header_for slot kind address number body) ++ (body ++ drop size out0)) out0) fits_in
        ∙ sym (append_assoc (bytes_of_header (header_for slot kind address number body)) body (drop size out0))

    long_still : length out1 ≡ room
    long_still =
        ap length front_first ∙ length-append (front number) (drop size out0)
        ∙ omega (arith, front_long number, length-drop size out0, asked.4)

    taken : take size out1 ≡ front number
    taken = ap (take size) front_first ∙ take_at (front number) (drop size out0) size (front_long number)

    dropped : (t : ℕ) → drop (size + t) out1 ≡ drop (size + t) out0
    dropped t =
        sym (drop-drop t size out1)
        ∙ ap (drop t) (ap (drop size) front_first ∙ drop_at (front number) (drop size out0) size (front_long number))
        ∙ drop-drop t size out0

    number_is : number ≡ next_number m.desk slot
    number_is = is_number ∙ omega (arith, asked.5) ∙ ap (λ (x : Desk). get_or x.sealed slot 0 + 1) st.desk

    key : (k : List ℕ) × (get_or m.slots slot None ≡ Some k) × f.RecordStands r k
    key = key_held next f n m st slot r asked.2 asked.1

    whole : (tagged ≡ Ok tt) × (out2 ≡ front number ++ (f.tag key.0 (front number) m.t ++ drop (size + m.t) out0)) × (h1 ≡ after next n.hash (f.whole size))
    whole =
        let b = behind key.0 key.2 (ap (within f.row.tag) st.t ∙ fits) asked.6 (omega (arith, long_still, asked.4)) in (
          b.0,
          b.1
              ∙ ap (λ (x : List ℕ). x ++ (f.tag key.0 x n.t ++ drop (size + n.t) out1)) taken
              ∙ ap (λ (x : List ℕ). front number ++ (f.tag key.0 (front number) n.t ++ x)) (dropped n.t)
              ∙ ap (λ (t : ℕ). front number ++ (f.tag key.0 (front number) t ++ drop (size + t) out0)) st.t,
          b.2,
        )

    -- a frame over what was there
    abbrev over : List ℕ → List ℕ
    over frame = frame ++ drop (length frame) out0

    abbrev frame_by : List ℕ → ℕ → List ℕ
    frame_by k i = front i ++ f.tag k (front i) m.t

    frame_long : length (frame_by key.0 number) ≡ size + m.t
    frame_long = length-append (front number) (f.tag key.0 (front number) m.t) ∙ omega (arith, front_long number, sized key.0 (front number) m.t fits)

    pub seals_written : out2 ≡ over (sealed_frame f m slot kind body address)
    seals_written =
        whole.1
        ∙ sym (append_assoc (front number) (f.tag key.0 (front number) m.t) (drop (size + m.t) out0))
        ∙ ap (λ (i : ℕ). frame_by key.0 number ++ drop i out0) (sym frame_long)
        ∙ ap (λ (i : ℕ). over (frame_by key.0 i)) number_is
        ∙ ap (λ (k : Option (List ℕ)). over (frame_by (unwrap_or k []) (next_number m.desk slot))) (sym key.1)

    pub seals : Told next f n (desk_written next f n m st h1 d) (Ok (8 + length body + n.t)) (seal f m slot kind body room)
    unfolding seal
    seals =
        subst (Told next f n (desk_written next f n m st h1 d) (Ok (8 + length body + n.t))) (sym (ap (λ (x : Option Refusal). unless x m done) (seal_asked ∙ asked.0)))
        (record {
          answer = ap (λ (t : ℕ). Ok (8 + length body + t)) st.t;
          model = desk_put next f n m st h1 d (desk_sealed m.desk slot) (made (omega (arith, asked.5)) ∙ ap (λ (x : Desk). desk_sealed x slot) st.desk) (sealed_sound m.desk st.sound slot);
          meter = whole.2;
        })
