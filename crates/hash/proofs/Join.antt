-- Bytes whose whole blocks are in the chain already, joined by more. Assumes nothing.
use Rattle.std.proofs.Common.{◌≡◌, ℕ, ◌+◌, ◌*◌, ◌/◌, ◌%◌, List, ◌++◌, length, take, drop, sym, ap, ◌∙◌, append_assoc, add-zero, arith, length-append, take-append-drop, length-take}
use lib.Seq.{drop-append-add}
use Rattle.hash.specs.Meaning.{Meaning, chained, blocks, padding, padded}
use Rattle.hash.specs.Meter.{after}
use Rattle.hash.proofs.Message.{chained_append}
use Rattle.hash.proofs.Turns.{after_after}

module _ (bytes tail : List ℕ) where
  -- the whole blocks, and the bytes left of them
  wholes : List ℕ
  wholes = take (64 * (length bytes / 64)) bytes

  left : List ℕ
  left = drop (64 * (length bytes / 64)) bytes

  wholes_sized : length wholes ≡ 64 * (length bytes / 64)
  unfolding wholes
  wholes_sized = simp length-take (omega arith)

  cut : bytes ≡ wholes ++ left
  unfolding wholes left
  cut = sym (take-append-drop (64 * (length bytes / 64)) bytes)

  joined : bytes ++ tail ≡ wholes ++ (left ++ tail)
  joined = ap (λ (xs : List ℕ). xs ++ tail) cut ∙ append_assoc wholes left tail

  pub join_chain : (m : Meaning) (s k c R out : List ℕ) (j : ℕ) → c ≡ chained m s k bytes (length bytes / 64) → R ≡ drop (64 * (length bytes / 64)) bytes →
      out ≡ chained m c k (R ++ tail) j → out ≡ chained m s k (bytes ++ tail) (length bytes / 64 + j)
  unfolding left
  join_chain m s k c R out j isC isR isOut =
      let n = length bytes / 64 in
      let early : chained m s k bytes n ≡ chained m s k wholes n =
      ap (λ (xs : List ℕ). chained m s k xs n) cut ∙ ap (λ (i : ℕ). chained m s k (wholes ++ left) i) (sym (add-zero n)) ∙ chained_append m s k wholes left n 0 wholes_sized in
      let joint = chained_append m s k wholes (left ++ tail) n j wholes_sized in
      isOut ∙ ap (λ (xs : List ℕ). chained m c k (xs ++ tail) j) isR ∙ ap (λ (x : List ℕ). chained m x k (left ++ tail) j) (isC ∙ early) ∙ sym joint
      ∙ sym (ap (λ (xs : List ℕ). chained m s k xs (n + j)) joined)

  pub join_held : (R : List ℕ) (j : ℕ) → R ≡ drop (64 * (length bytes / 64)) bytes → drop (64 * j) (R ++ tail) ≡ drop (64 * (length bytes / 64 + j)) (bytes ++ tail)
  unfolding left
  join_held R j isR =
      let place : 64 * (length bytes / 64 + j) ≡ length wholes + 64 * j = omega (arith, wholes_sized) in
      ap (λ (xs : List ℕ). drop (64 * j) (xs ++ tail)) isR
      ∙ sym (ap (λ (i : ℕ). drop i (bytes ++ tail)) place ∙ ap (drop (length wholes + 64 * j)) joined ∙ drop-append-add wholes (left ++ tail) (64 * j))

-- a message that is closed from the chain of its whole blocks
pub ends : (m : Meaning) (s k bytes c R out : List ℕ) → c ≡ chained m s k bytes (length bytes / 64) →
    R ≡ drop (64 * (length bytes / 64)) bytes → out ≡ chained m c k (R ++ padding m.order (length bytes)) (blocks (length bytes % 64)) →
    out ≡ chained m s k (padded m.order bytes) (blocks (length bytes))
ends m s k bytes c R out isC isR isOut =
    let n = length bytes in
    let number : n / 64 + blocks (n % 64) ≡ blocks n = omega arith in
    join_chain bytes (padding m.order n) m s k c R out (blocks (n % 64)) isC isR isOut ∙ ap (λ (i : ℕ). chained m s k (padded m.order bytes) i) number

pub ends_turns : {H : Type 0} (next : H → H) (h h1 h2 : H) (n : ℕ) → h1 ≡ after next h (n / 64) → h2 ≡ after next h1 (blocks (n % 64)) → h2 ≡ after next h (blocks n)
ends_turns next h h1 h2 n p q =
    let number : n / 64 + blocks (n % 64) ≡ blocks n = omega arith in
    q ∙ ap (λ x. after next x (blocks (n % 64))) p ∙ after_after next h (n / 64) (blocks (n % 64)) ∙ ap (after next h) number

-- a message in two parts, the first of one block, whose second part is closed from the chain of its whole blocks
pub closes : (m : Meaning) (s k front bytes c R out : List ℕ) → length front ≡ 64 → c ≡ chained m (chained m s k front 1) k bytes (length bytes / 64) →
    R ≡ drop (64 * (length bytes / 64)) bytes → out ≡ chained m c k (R ++ padding m.order (64 + length bytes)) (blocks (length bytes % 64)) →
    out ≡ chained m s k (padded m.order (front ++ bytes)) (blocks (length (front ++ bytes)))
closes m s k front bytes c R out size isC isR isOut =
    let n = length bytes in
    let pad = padding m.order (64 + n) in
    let j = blocks (n % 64) in
    let inside : out ≡ chained m (chained m s k front 1) k (bytes ++ pad) (n / 64 + j) = join_chain bytes pad m (chained m s k front 1) k c R out j isC isR isOut in
    let joint = chained_append m s k front (bytes ++ pad) 1 (n / 64 + j) (omega arith) in
    let long : length (front ++ bytes) ≡ 64 + n = length-append front bytes ∙ ap (λ (i : ℕ). i + n) size in
    let all : padded m.order (front ++ bytes) ≡ front ++ (bytes ++ pad) =
    ap (λ (i : ℕ). (front ++ bytes) ++ padding m.order i) long ∙ append_assoc front bytes pad in
    let number : blocks (length (front ++ bytes)) ≡ 1 + (n / 64 + j) = omega (arith, long) in
    inside ∙ sym joint ∙ sym (ap (λ (i : ℕ). chained m s k (padded m.order (front ++ bytes)) i) number ∙ ap (λ (xs : List ℕ). chained m s k xs (1 + (n / 64 + j))) all)
