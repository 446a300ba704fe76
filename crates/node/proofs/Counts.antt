-- The books stay in order, and no count in them comes near its last value. Assumes nothing.
use Rattle.std.proofs.Common.{◌≡◌, ℕ, zero, suc, ◌+◌, ◌*◌, ◌^◌, ◌<◌, ◌≤◌, List, [], ◌∷◌, length, get_or, set, Some, None, ap, ⊎_elim, arith}
use Rattle.std.proofs.lemmas.List.{get_or-set_same, get_or-set_other, length-set}
use Rattle.std.proofs.lemmas.Bool.{cases_eq}
use Rattle.node.specs.declared.desk.Desk.{Desk}
use Rattle.node.specs.declared.desk.Fields.{Fields}
use Rattle.node.specs.declared.desk.End.{End}
use Rattle.node.specs.declared.desk.End.TheVariants.{Carry, Decline}
use Rattle.node.specs.Orders.{desk_ended}
use Rattle.node.specs.Calls.{desk_taken, desk_sealed}
use Rattle.node.specs.Stands.{Sound, sum, in_hand}

-- small numbers have a small sum
pub sum-few : (xs : List ℕ) → ((s : ℕ) → get_or xs s 0 < 4294967296) → sum xs ≤ length xs * 4294967295
sum-few [] low = omega arith
sum-few (x ∷ xs) low =
    let here : x < 4294967296 = low zero in
    let rest = sum-few xs (λ s. low (suc s)) in
    omega arith

-- a number that rises makes the sum rise
pub sum-rises : (xs : List ℕ) (s n : ℕ) → s < length xs → get_or xs s 0 < n → sum xs + 1 ≤ sum (set xs s n)
sum-rises [] s n lt rise = absurd (omega arith)
sum-rises (x ∷ xs) zero n lt rise = let r : x < n = rise in omega arith
sum-rises (x ∷ xs) (suc s) n lt rise =
    let r = sum-rises xs s n (omega arith) rise in
    omega arith

module _ (d : Desk) (sound : Sound d) where
  pub taken_few : d.taken < 2 ^ 40
  taken_few = let most = sum-few d.took sound.small in omega (arith, most, sound.few, sound.eight)

  pub carried_few : d.carried + 1 < 2 ^ 64
  carried_few = omega (arith, taken_few, sound.orders)

  pub declined_few : d.declined + 1 < 2 ^ 64
  declined_few = omega (arith, taken_few, sound.orders)

  pub ended_sound : (held o : Fields) (end : End) → d.hand ≡ Some held → Sound (desk_ended d o end)
  ended_sound held o Carry is = record {
    orders = let h : in_hand d.hand ≡ 1 = ap in_hand is in omega (arith, sound.orders, h);
    few = sound.few;
    eight = sound.eight;
    small = sound.small;
    eight_sealed = sound.eight_sealed;
  }
  ended_sound held o Decline is = record {
    orders = let h : in_hand d.hand ≡ 1 = ap in_hand is in omega (arith, sound.orders, h);
    few = sound.few;
    eight = sound.eight;
    small = sound.small;
    eight_sealed = sound.eight_sealed;
  }

  pub taken_sound : (o : Fields) → d.hand ≡ None → o.slot < 8 → get_or d.took o.slot 0 < o.number → o.number < 4294967296 → Sound (desk_taken d o)
  taken_sound o is s8 rise low = record {
    orders = let h : in_hand d.hand ≡ 0 = ap in_hand is in omega (arith, sound.orders, h);
    few = let r = sum-rises d.took o.slot o.number (omega (arith, sound.eight)) rise in omega (arith, r, sound.few);
    eight = simp length-set sound.eight;
    small = λ s. ⊎_elim
        (λ (q : s ≡ o.slot). let lt : o.slot < length d.took = omega (arith, sound.eight) in rw q (rw (get_or-set_same d.took o.slot o.number 0) low))
        (λ (q : s ≡ o.slot → ⊥). rw (get_or-set_other d.took o.slot s o.number 0) (sound.small s))
        (cases_eq s o.slot);
    eight_sealed = sound.eight_sealed;
  }

  pub sealed_sound : (s : ℕ) → Sound (desk_sealed d s)
  sealed_sound s = record {
    orders = sound.orders;
    few = sound.few;
    eight = sound.eight;
    small = sound.small;
    eight_sealed = simp length-set sound.eight_sealed;
  }
