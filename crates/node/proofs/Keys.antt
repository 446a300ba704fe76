-- Install and clear. Assumes nothing.
use Rattle.std.proofs.Common.{◌≡◌, ℕ, ◌<◌, ◌≤◌, Bool, true, false, cond, List, [], length, get_or, Some, None, Ok, Err, Option, refl, ap, arith, le-ltb, lt-ltb}
use Rattle.refusals.specs.declared.Refusal.{Refusal}
use Rattle.refusals.specs.declared.Refusal.TheVariants.{KeyLength, NoSlot}
use Rattle.mac.specs.Face.{Face, within}
use Rattle.mac.specs.Promises.{Expanded}
use Rattle.mac.specs.declared.KeyRecord.{KeyRecord}
use Rattle.node.specs.declared.Node.{Node}
use Rattle.node.specs.Model.{Model, accepted, refused, unless, with_slot}
use Rattle.node.specs.Calls.{install, clear}
use Rattle.node.specs.Stands.{Stands, Told}
use Rattle.node.proofs.Steps.{slot_written, hash_moved, hash_free, slot_put, key_held, Asked_of, unkeyed}

module _ {H A : Type 0} (next : H → H) (f : Face) (n : Node H A) (m : Model) (st : Stands next f n m) (s : ℕ) where
  pub install_no_slot : (key : List ℕ) → 8 ≤ s → install f m s key ≡ refused m NoSlot
  unfolding install
  install_no_slot key ge = rw (le-ltb s 8 ge)

  module _ (s8 : s < 8) (key : List ℕ) (h1 : H) where
    pub installs : (r : KeyRecord) → length n.slots ≡ 8 → Expanded next f n.hash h1 key (Ok r) → Told next f n (slot_written next f n m st h1 s (Some r)) (Ok (tt {0})) (install f m s key)
    unfolding install
    installs r l8 made = rw (lt-ltb s 8 s8) (from (within f.row.key (length key)) refl)
      where
        from : (b : Bool) → within f.row.key (length key) ≡ b →
            Told next f n (slot_written next f n m st h1 s (Some r)) (Ok (tt {0})) (unless (cond b None (Some KeyLength)) m (accepted (tt {0}) (with_slot m s (Some key)) f.setup))
        from true e = let j = made.made e in record { answer = refl; model = slot_put next f n m st h1 s (Some r) (Some key) l8 j.0; meter = j.1 }
        from false e = let j = (made.odd e).0 in let z : ◌≡◌ {A = ℕ} 0 1 = cc in absurd (omega (arith, z))

    pub install_odd : (e : Refusal) → Expanded next f n.hash h1 key (Err e) → Told next f n (hash_moved next f n m st h1) (Err e) (install f m s key)
    unfolding install
    install_odd e made = rw (lt-ltb s 8 s8) (from (within f.row.key (length key)) refl)
      where
        from : (b : Bool) → within f.row.key (length key) ≡ b →
            Told next f n (hash_moved next f n m st h1) (Err e) (unless (cond b None (Some KeyLength)) m (accepted (tt {0}) (with_slot m s (Some key)) f.setup))
        from true q = absurd (made.made q).0
        from false q = let j = made.odd q in let is = j.0 in record { answer = ap Err (let same : e ≡ KeyLength = cc in same); model = hash_free next f n m st h1; meter = j.1 }

  pub clear_unkeyed : (e : Refusal) → Asked_of next f n m st s (Err e) → clear f m s ≡ refused m e
  unfolding clear
  clear_unkeyed e a = ap (λ (o : Option Refusal). unless o m (accepted (tt {0}) (with_slot m s None) 0)) (unkeyed next f n m st s e [] a)

  pub clears : s < 8 → length n.slots ≡ 8 → (r : KeyRecord) → get_or n.slots s None ≡ Some r → Told next f n (slot_written next f n m st n.hash s None) (Ok (tt {0})) (clear f m s)
  unfolding clear
  clears s8 l8 r held =
      let k = key_held next f n m st s r s8 held in
      let e = k.1 in
      rw (lt-ltb s 8 s8, e) (record { answer = refl; model = slot_put next f n m st n.hash s None None l8 tt; meter = refl })
