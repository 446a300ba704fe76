-- HMAC is the hash of a hash. Assumes nothing.
use Rattle.std.proofs.Common.{◌≡◌, ℕ, ◌+◌, ◌*◌, ◌/◌, ◌%◌, ◌≤◌, List, ◌++◌, length, take, drop, sym, ap, ◌∙◌, arith}
use Rattle.hash.specs.Meaning.{Meaning, chained, code, blocks, padding, closing, hashed, none}
use Rattle.hash.specs.Meter.{after}
use Rattle.hash.proofs.Join.{closes}
use Rattle.hash.proofs.Turns.{after_after}
use Rattle.mac.proofs.Codes.{code_first}
use Rattle.hmac.specs.Hmac.{inner_key, outer_key, after_block, hmac_code}
use Rattle.hmac.proofs.Keys.{padded_key}

module _ (m : Meaning) (few : m.words ≤ 8) (key bytes : List ℕ) (size : length key ≤ 64) where
  -- the inner message
  inner : (c R I : List ℕ) (fed : ℕ) → fed ≡ length bytes → c ≡ chained m (after_block m (inner_key key)) none bytes (length bytes / 64) →
      R ≡ drop (64 * (length bytes / 64)) bytes → I ≡ chained m c none (R ++ padding m.order (64 + fed)) (blocks (fed % 64)) →
      code m I ≡ hashed m (inner_key key ++ bytes)
  inner c R I fed isFed isC isR isI =
      ap (code m) (closes m m.first none (inner_key key) bytes c R I (padded_key 54 key size) isC isR (isI ∙ ap (λ (i : ℕ). chained m c none (R ++ padding m.order (64 + i)) (blocks (i % 64))) isFed))

  -- the outer message, of the inner code
  outer : (C s R O : List ℕ) (n : ℕ) → length C ≡ 4 * m.words → n ≡ 4 * m.words → s ≡ after_block m (outer_key key) → R ≡ C →
      O ≡ chained m s none (R ++ padding m.order (64 + n)) (blocks n) → code m O ≡ hashed m (outer_key key ++ C)
  outer C s R O n size4 isN isS isR isO =
      let short : length C / 64 ≡ 0 = omega arith in
      let start : s ≡ chained m (after_block m (outer_key key)) none C (length C / 64) = isS ∙ ap (λ (i : ℕ). chained m (after_block m (outer_key key)) none C i) (sym short) in
      let left : R ≡ drop (64 * (length C / 64)) C = isR ∙ ap (λ (i : ℕ). drop (64 * i) C) (sym short) in
      let total : n ≡ length C = omega arith in
      let place : blocks n ≡ blocks (length C % 64) = omega arith in
      let end : O ≡ chained m s none (R ++ padding m.order (64 + length C)) (blocks (length C % 64)) =
      isO ∙ ap (λ (i : ℕ). chained m s none (R ++ padding m.order (64 + i)) (blocks n)) total ∙ ap (λ (i : ℕ). chained m s none (R ++ padding m.order (64 + length C)) i) place in
      ap (code m) (closes m m.first none (outer_key key) C s R O (padded_key 92 key size) start left end)

  pub closed : (c s held I O B1 B3 X Y : List ℕ) (fed n : ℕ) → fed ≡ length bytes → n ≡ 4 * m.words →
      c ≡ chained m (after_block m (inner_key key)) none bytes (length bytes / 64) → take (length bytes % 64) held ≡ drop (64 * (length bytes / 64)) bytes → s ≡ after_block m (outer_key key) →
      I ≡ chained m c none (closing m.order held ((64 + fed) % 64) (64 + fed)) (blocks ((64 + fed) % 64)) → length (code m I) ≡ 4 * m.words → B1 ≡ code m I ++ X →
      O ≡ chained m s none (closing m.order B1 ((64 + n) % 64) (64 + n)) (blocks ((64 + n) % 64)) → length (code m O) ≡ 4 * m.words → B3 ≡ code m O ++ Y →
      take (4 * m.words) B3 ≡ hmac_code m key bytes
  closed c s held I O B1 B3 X Y fed n isFed isN isC is_held isS isI sizeI isB1 isO sizeO isB3 =
      let at : (64 + fed) % 64 ≡ fed % 64 = omega arith in
      let place : (64 + n) % 64 ≡ n = omega arith in
      let R = take (fed % 64) held in
      let isR : R ≡ drop (64 * (length bytes / 64)) bytes = ap (λ (i : ℕ). take (i % 64) held) isFed ∙ is_held in
      let isI2 : I ≡ chained m c none (R ++ padding m.order (64 + fed)) (blocks (fed % 64)) =
      isI ∙ ap (λ (i : ℕ). chained m c none (closing m.order held i (64 + fed)) (blocks i)) at in
      let isO2 : O ≡ chained m s none (take n B1 ++ padding m.order (64 + n)) (blocks n) =
      isO ∙ ap (λ (i : ℕ). chained m s none (closing m.order B1 i (64 + n)) (blocks i)) place in
      let first : take n B1 ≡ code m I = ap (λ (i : ℕ). take i B1) isN ∙ code_first m I X B1 sizeI isB1 in
      code_first m O Y B3 sizeO isB3
      ∙ outer (code m I) s (take n B1) O n sizeI isN isS first isO2
      ∙ ap (λ (xs : List ℕ). hashed m (outer_key key ++ xs)) (inner c R I fed isFed isC isR isI2)

-- the rounds of the two messages' ends
pub end_turns : {H : Type 0} (next : H → H) (h h1 h2 : H) (fed n w : ℕ) → h1 ≡ after next h (blocks ((64 + fed) % 64)) → h2 ≡ after next h1 (blocks ((64 + n) % 64)) → n ≡ 4 * w → w ≤ 8 →
    h2 ≡ after next h (blocks (fed % 64) + 1)
end_turns next h h1 h2 fed n w p q isN few =
    let number : blocks ((64 + fed) % 64) + blocks ((64 + n) % 64) ≡ blocks (fed % 64) + 1 = omega arith in
    q ∙ ap (λ x. after next x (blocks ((64 + n) % 64))) p ∙ after_after next h (blocks ((64 + fed) % 64)) (blocks ((64 + n) % 64)) ∙ ap (after next h) number
