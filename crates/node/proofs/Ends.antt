-- Carry and decline. Assumes nothing.
use Rattle.std.proofs.Common.{◌≡◌, ◌+◌, ◌^◌, ◌<◌, Bool, true, false, cond, Some, None, Ok, Option, sym, refl, ap, ◌∙◌, subst}
use borrow.Author.Tests.{both_ways}
use Rattle.refusals.specs.declared.Refusal.{Refusal}
use Rattle.refusals.specs.declared.Refusal.TheVariants.{NotInHand}
use Rattle.mac.specs.Face.{Face}
use Rattle.node.specs.declared.Node.{Node}
use Rattle.node.specs.declared.desk.Desk.{Desk}
use Rattle.node.specs.declared.desk.Fields.{Fields}
use Rattle.node.specs.declared.desk.End.{End}
use Rattle.node.specs.declared.desk.End.TheVariants.{Carry, Decline}
use Rattle.node.specs.Orders.{end_call, desk_ended}
use Rattle.node.specs.Model.{Model, After, accepted, refused, unless, with_desk}
use Rattle.node.specs.Asking.{is_order}
use Rattle.node.specs.Calls.{guarded, carry, decline}
use Rattle.node.specs.Stands.{Stands, Told, Sound}
use Rattle.node.proofs.Counts.{carried_few, declined_few, ended_sound}

-- the order that is in hand
held_of : (o : Fields) (hand : Option Fields) → is_order o hand ≡ true → (h : Fields) × (hand ≡ Some h)
unfolding carry decline
held_of o None e = absurd (both_ways _ refl e)
held_of o (Some h) e = (h, refl)

module _ {H A : Type 0} (next : H → H) (f : Face) (n : Node H A) (m : Model) (st : Stands next f n m) where
  abbrev pub desk_written : H → Desk → Node H A
  desk_written h1 d = record { hash = h1; slots = n.slots; lanes = n.lanes; desk = d; t = n.t; address = n.address; refusal = n.refusal; algorithm = n.algorithm }

  pub desk_put : (h1 : H) (d e : Desk) → d ≡ e → Sound e → Stands next f (desk_written h1 d) (with_desk m e)
  unfolding carry decline
  desk_put h1 d e same sound = record {
    t = st.t;
    address = st.address;
    refusal = st.refusal;
    fits = st.fits;
    desk = same;
    sound = sound;
    lane_count = st.lane_count;
    lane = st.lane;
    slot_count = st.slot_count;
    slot = st.slot;
  }

  -- a call that ends an order asks whether the node was made, and then whether the order is in hand
  abbrev ask : Option Refusal → Bool → After Unit → After Unit
  ask refusal held x = unless refusal m (unless (cond held None (Some NotInHand)) m x)

  ends_as : (end : End) (o : Fields) → guarded m (end_call f m end o) ≡ ask m.refusal (is_order o m.desk.hand) (accepted (tt {0}) (with_desk m (desk_ended m.desk o end)) 0)
  unfolding carry decline
  ends_as Carry o = refl
  ends_as Decline o = refl

  module _ (end : End) (o : Fields) where
    abbrev call : After Unit
    call = guarded m (end_call f m end o)

    abbrev done : After Unit
    done = accepted (tt {0}) (with_desk m (desk_ended m.desk o end)) 0

    module _ (made : n.refusal ≡ None) (b : Bool) (held : is_order o n.desk.hand ≡ b) where
      asked : call ≡ ask None b done
      asked = ends_as end o
          ∙ ap (λ (r : Option Refusal). ask r (is_order o m.desk.hand) done) (sym st.refusal ∙ made)
          ∙ ap (λ (k : Bool). ask None k done) (ap (λ (d : Desk). is_order o d.hand) (sym st.desk) ∙ held)

      pub ends_other : b ≡ false → call ≡ refused m NotInHand
      ends_other e = asked ∙ ap (λ (k : Bool). ask None k done) e

      pub ends : (d : Desk) → b ≡ true → (n.desk.carried + 1 < 2 ^ 64 → n.desk.declined + 1 < 2 ^ 64 → d ≡ desk_ended n.desk o end) → Told next f n (desk_written n.hash d) (Ok (tt {0})) call
      ends d e written =
          let h = held_of o n.desk.hand (held ∙ e) in
          let sound : Sound n.desk = subst Sound (sym st.desk) st.sound in
          let is : d ≡ desk_ended m.desk o end = written (carried_few n.desk sound) (declined_few n.desk sound) ∙ ap (λ (x : Desk). desk_ended x o end) st.desk in
          subst (Told next f n (desk_written n.hash d) (Ok (tt {0}))) (sym (asked ∙ ap (λ (k : Bool). ask None k done) e))
          (record { answer = refl; model = desk_put n.hash d (desk_ended m.desk o end) is (ended_sound m.desk st.sound h.0 o end (ap (λ (x : Desk). x.hand) (sym st.desk) ∙ h.1)); meter = refl })
