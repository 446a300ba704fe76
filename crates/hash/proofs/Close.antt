-- The last block of a message with its padding, and the code of a chain, as they are written. Assumes nothing.
use Rattle.std.proofs.Common.{◌≡◌, ℕ, zero, suc, ◌+◌, ◌-◌, ◌*◌, ◌/◌, ◌%◌, ◌^◌, ◌<◌, ◌≤◌, List, [], ◌∷◌, ◌++◌, length, take, drop, set, replicate, map, sym, refl, ap, ◌∙◌, append_assoc, append-nil, arith, length-append, length-drop, length-set, length-take}
use lib.Pow.{field, mod-mod-pow}
use lib.Seq.{take-append-add, take-nil}
use borrow.Rule.Slice.PartMut.{put_mid}
use Rattle.std.proofs.lemmas.List.{take_all, drop_at, drop_all, take_more_set, take-replicate, length-replicate, replicate-append-replicate}
use Rattle.std.specs.List.{flat_map}
use Rattle.hash.specs.declared.ByteOrder.{ByteOrder}
use Rattle.hash.specs.declared.ByteOrder.TheVariants.{LowFirst, HighFirst}
use Rattle.hash.specs.Meaning.{Meaning, step, chained, blocks, eight, four, bytes_of, closing}
use Rattle.hash.specs.Meter.{after}
use Rattle.hash.proofs.Message.{chained_append}
use Rattle.hash.proofs.Turns.{after_one, after_more}

pub marked : (b f : List ℕ) (at size : ℕ) → length b ≡ 64 → at < 64 → f ≡ replicate size 0 → size ≡ 63 - at →
    put_mid (at + 1) (64 - (at + 1)) (set b at 128) f ≡ take at b ++ 128 ∷ replicate (63 - at) 0
marked b f at size l lt isF isSize =
    let none : drop (64 - (at + 1)) (drop (at + 1) (set b at 128)) ≡ [] = drop_all (64 - (at + 1)) (drop (at + 1) (set b at 128)) (simp (length-drop, length-set) (omega arith)) in
    let front : take (at + 1) (set b at 128) ≡ take at b ++ 128 ∷ [] = take_more_set b at 128 (omega arith) in
    rw (none, front, isF, isSize, append-nil) (append_assoc (take at b) (128 ∷ []) (replicate (63 - at) 0))

pub ended : (b w bits : List ℕ) → length b ≡ 64 → w ≡ bits → put_mid 56 8 b w ≡ take 56 b ++ bits
ended b w bits l e =
    let none : drop 8 (drop 56 b) ≡ [] = drop_all 8 (drop 56 b) (simp length-drop (omega arith)) in
    rw (none, e, append-nil)

pub length-eight : (o : ByteOrder) (n : ℕ) → length (eight o n) ≡ 8
length-eight LowFirst n = refl
length-eight HighFirst n = refl

-- the front of a marked block
front_of : (R : List ℕ) (mid z : ℕ) → length R < mid → mid ≤ length R + suc z → take mid (R ++ 128 ∷ replicate z 0) ≡ R ++ 128 ∷ replicate (mid - length R - 1) 0
front_of R mid z lt le =
    let size : mid ≡ length R + suc (mid - length R - 1) = omega arith in
    let short : mid - length R - 1 ≤ z = omega arith in
    ap (λ (i : ℕ). take i (R ++ 128 ∷ replicate z 0)) size ∙ take-append-add R (128 ∷ replicate z 0) (suc (mid - length R - 1)) ∙ ap (λ (zs : List ℕ). R ++ 128 ∷ zs) (take-replicate (mid - length R - 1) z 0 short)

pub one_round : (m : Meaning) (c k B : List ℕ) → length B ≡ 64 → chained m c k B 1 ≡ step m c k B
one_round m c k B l = ap (λ (xs : List ℕ). step m c k xs) (take_all 64 B (omega arith))

-- the byte from digit k on, of j + 8 + k digits
byte_wraps : (n j k : ℕ) → n % 2 ^ ((j + 8) + k) / 2 ^ k % 2 ^ 8 ≡ n / 2 ^ k % 2 ^ 8
byte_wraps n j k = ap (λ (x : ℕ). x % 2 ^ 8) (field n (j + 8) k) ∙ mod-mod-pow (n / 2 ^ k) j 8

-- eight bytes hold a number modulo 2 ^ 64
pub eight_wraps : (o : ByteOrder) (n : ℕ) → eight o (n % 2 ^ 64) ≡ eight o n
eight_wraps o n =
    let b0 : n % 2 ^ 64 % 256 ≡ n % 256 = omega arith in
    let b1 : n % 2 ^ 64 / 2 ^ 8 % 256 ≡ n / 2 ^ 8 % 256 = byte_wraps n 48 8 in
    let b2 : n % 2 ^ 64 / 2 ^ 16 % 256 ≡ n / 2 ^ 16 % 256 = byte_wraps n 40 16 in
    let b3 : n % 2 ^ 64 / 2 ^ 24 % 256 ≡ n / 2 ^ 24 % 256 = byte_wraps n 32 24 in
    let b4 : n % 2 ^ 64 / 2 ^ 32 % 256 ≡ n / 2 ^ 32 % 256 = byte_wraps n 24 32 in
    let b5 : n % 2 ^ 64 / 2 ^ 40 % 256 ≡ n / 2 ^ 40 % 256 = byte_wraps n 16 40 in
    let b6 : n % 2 ^ 64 / 2 ^ 48 % 256 ≡ n / 2 ^ 48 % 256 = byte_wraps n 8 48 in
    let b7 : n % 2 ^ 64 / 2 ^ 56 % 256 ≡ n / 2 ^ 56 % 256 = byte_wraps n 0 56 in
    elim o as (λ o. eight o (n % 2 ^ 64) ≡ eight o n) [ LowFirst ↦ (cc) | HighFirst ↦ (cc) ]

module _ (m : Meaning) (c k block : List ℕ) (at total : ℕ) (l : length block ≡ 64) (lt : at < 64) (place : total % 64 ≡ at) where
  R : List ℕ
  R = take at block

  R_sized : length R ≡ at
  unfolding R
  R_sized = simp length-take (omega arith)

  marked_sized : (M : List ℕ) → M ≡ R ++ 128 ∷ replicate (63 - at) 0 → length M ≡ 64
  marked_sized M isM = ap length isM ∙ simp (length-append, length-replicate) (omega (arith, R_sized))

  -- the padding fits into one block
  module _ (M B E : List ℕ) (mid : ℕ) (is56 : mid ≡ 56) (low : at < 56) (isM : M ≡ take at block ++ 128 ∷ replicate (63 - at) 0) (is_b : B ≡ take mid M ++ E) (isE : E ≡ eight m.order (8 * total)) where
    one_whole : B ≡ closing m.order block at total
    unfolding R
    one_whole =
        let zs : mid - length R - 1 ≡ 64 * blocks total - total - 9 = omega (arith, R_sized) in
        let frontM : take mid M ≡ R ++ 128 ∷ replicate (64 * blocks total - total - 9) 0 =
        ap (take mid) isM ∙ front_of R mid (63 - at) (omega (arith, R_sized)) (omega (arith, R_sized)) ∙ ap (λ (i : ℕ). R ++ 128 ∷ replicate i 0) zs in
        is_b ∙ ap (λ (xs : List ℕ). xs ++ E) frontM ∙ append_assoc R (128 ∷ replicate (64 * blocks total - total - 9) 0) E ∙ ap (λ (xs : List ℕ). R ++ 128 ∷ (replicate (64 * blocks total - total - 9) 0 ++ xs)) isE

    one_sized : length B ≡ 64
    unfolding R
    one_sized =
        let size_m = marked_sized M isM in
        let sizeE : length E ≡ 8 = ap length isE ∙ length-eight m.order (8 * total) in
        ap length is_b ∙ simp (length-append, length-take) (omega arith)

    pub close_one : (out : List ℕ) → out ≡ step m c k B → out ≡ chained m c k (closing m.order block at total) (blocks at)
    close_one out isOut =
        let number : blocks at ≡ 1 = omega arith in
        isOut ∙ sym (one_round m c k B one_sized) ∙ ap (λ (xs : List ℕ). chained m c k xs 1) one_whole ∙ ap (λ (i : ℕ). chained m c k (closing m.order block at total) i) (sym number)

    pub block_one : B ≡ drop (64 * (blocks at - 1)) (closing m.order block at total)
    block_one =
        let number : 64 * (blocks at - 1) ≡ 0 = omega arith in
        one_whole ∙ ap (λ (i : ℕ). drop i (closing m.order block at total)) (sym number)

  -- the padding goes on in a second block
  module _ (M Z B E : List ℕ) (mid room : ℕ) (is56 : mid ≡ 56) (is64 : room ≡ 64) (high : 56 ≤ at) (isM : M ≡ take at block ++ 128 ∷ replicate (63 - at) 0) (isZ : Z ≡ replicate room 0) (is_b : B ≡ take mid Z ++ E) (isE : E ≡ eight m.order (8 * total)) where
    B_is : B ≡ replicate mid 0 ++ E
    B_is = is_b ∙ ap (λ (xs : List ℕ). xs ++ E) (ap (take mid) isZ ∙ take-replicate mid room 0 (omega arith))

    two_whole : M ++ B ≡ closing m.order block at total
    unfolding R
    two_whole =
        let zs : (63 - at) + mid ≡ 64 * blocks total - total - 9 = omega arith in
        let zeros : replicate (63 - at) 0 ++ (replicate mid 0 ++ E) ≡ replicate (64 * blocks total - total - 9) 0 ++ eight m.order (8 * total) =
        sym (append_assoc (replicate (63 - at) 0) (replicate mid 0) E) ∙ ap (λ (xs : List ℕ). xs ++ E) (replicate-append-replicate (63 - at) mid 0 ∙ ap (λ (i : ℕ). replicate i 0) zs) ∙ ap (λ (xs : List ℕ). replicate (64 * blocks total - total - 9) 0 ++ xs) isE in
        ap (λ (xs : List ℕ). xs ++ B) isM ∙ ap (λ (xs : List ℕ). (R ++ 128 ∷ replicate (63 - at) 0) ++ xs) B_is
        ∙ append_assoc R (128 ∷ replicate (63 - at) 0) (replicate mid 0 ++ E) ∙ ap (λ (xs : List ℕ). R ++ 128 ∷ xs) zeros

    size_m : length M ≡ 64
    unfolding R
    size_m = marked_sized M isM

    pub close_two : (c1 out : List ℕ) → c1 ≡ step m c k M → out ≡ step m c1 k B → out ≡ chained m c k (closing m.order block at total) (blocks at)
    close_two c1 out isC isOut =
        let sizeE : length E ≡ 8 = ap length isE ∙ length-eight m.order (8 * total) in
        let sizeB : length B ≡ 64 = ap length B_is ∙ simp (length-append, length-replicate) (omega arith) in
        let number : blocks at ≡ 1 + 1 = omega arith in
        let joint = chained_append m c k M B 1 1 (omega (arith, size_m)) in
        isOut ∙ sym (one_round m c1 k B sizeB) ∙ ap (λ (s : List ℕ). chained m s k B 1) (isC ∙ sym (one_round m c k M size_m)) ∙ sym joint
        ∙ ap (λ (xs : List ℕ). chained m c k xs (1 + 1)) two_whole ∙ ap (λ (i : ℕ). chained m c k (closing m.order block at total) i) (sym number)

    pub block_two : B ≡ drop (64 * (blocks at - 1)) (closing m.order block at total)
    block_two =
        let number : 64 * (blocks at - 1) ≡ 64 = omega arith in
        sym (drop_at M B 64 size_m) ∙ ap (drop 64) two_whole ∙ ap (λ (i : ℕ). drop i (closing m.order block at total)) (sym number)

-- the rounds of one block, or of two
pub turns_one : {H : Type 0} (next : H → H) (h h1 h2 : H) (at : ℕ) → at < 56 → h1 ≡ h → h2 ≡ next h1 → h2 ≡ after next h (blocks at)
turns_one next h h1 h2 at low p q =
    let number : 1 ≡ blocks at = omega arith in
    q ∙ ap next p ∙ sym (after_one next h) ∙ ap (after next h) number

pub turns_two : {H : Type 0} (next : H → H) (h h1 h2 : H) (at : ℕ) → 56 ≤ at → at < 64 → h1 ≡ next h → h2 ≡ next h1 → h2 ≡ after next h (blocks at)
turns_two next h h1 h2 at high lt p q =
    let number : 1 + 1 ≡ blocks at = omega arith in
    q ∙ ap next (p ∙ sym (after_one next h)) ∙ after_more next h 1 ∙ ap (after next h) number

-- the code of one word more
pub bytes_of_++ : (o : ByteOrder) (xs ys : List ℕ) → bytes_of o (xs ++ ys) ≡ bytes_of o xs ++ bytes_of o ys
bytes_of_++ o [] ys = refl
bytes_of_++ o (x ∷ xs) ys = ap (λ (zs : List ℕ). four o x ++ zs) (bytes_of_++ o xs ys) ∙ sym (append_assoc (four o x) (bytes_of o xs) (bytes_of o ys))

length-four : (o : ByteOrder) (x : ℕ) → length (four o x) ≡ 4
length-four LowFirst x = refl
length-four HighFirst x = refl

pub length-bytes_of : (o : ByteOrder) (xs : List ℕ) → length (bytes_of o xs) ≡ 4 * length xs
length-bytes_of o [] = refl
length-bytes_of o (x ∷ xs) = simp length-append (omega (arith, length-four o x, length-bytes_of o xs))

four_each : (o : ByteOrder) (xs : List ℕ) → flat_map (λ (b : List ℕ). b) (map (four o) xs) ≡ bytes_of o xs
four_each o [] = refl
four_each o (x ∷ xs) = ap (λ (bs : List ℕ). four o x ++ bs) (four_each o xs)

bytes_of-take : (o : ByteOrder) (w : ℕ) (xs : List ℕ) → take (4 * w) (bytes_of o xs) ≡ bytes_of o (take w xs)
bytes_of-take o zero xs = let none : 4 * 0 ≡ 0 = omega arith in ap (λ (n : ℕ). take n (bytes_of o xs)) none
bytes_of-take o (suc w) [] = take-nil (4 * suc w)
bytes_of-take o (suc w) (x ∷ xs) =
    let more : 4 * suc w ≡ length (four o x) + 4 * w = omega (arith, length-four o x) in
    ap (λ (n : ℕ). take n (four o x ++ bytes_of o xs)) more ∙ take-append-add (four o x) (bytes_of o xs) (4 * w) ∙ ap (λ (bs : List ℕ). four o x ++ bs) (bytes_of-take o w xs)

-- the first w words of a chain as bytes, from all of them
pub code_front : (o : ByteOrder) (w : ℕ) (chain bytes : List ℕ) (each : List (List ℕ)) → each ≡ map (four o) chain → bytes ≡ flat_map (λ (b : List ℕ). b) each →
    take (4 * w) bytes ≡ bytes_of o (take w chain)
code_front o w chain bytes each is all = ap (take (4 * w)) (all ∙ ap (flat_map (λ (b : List ℕ). b)) is ∙ four_each o chain) ∙ bytes_of-take o w chain

pub code_sized : (o : ByteOrder) (w : ℕ) (chain : List ℕ) → length chain ≡ 8 → w ≤ 8 → length (bytes_of o (take w chain)) ≡ 4 * w
code_sized o w chain l few = length-bytes_of o (take w chain) ∙ simp length-take (omega arith)

-- a round takes words to words
abbrev pub Keeps : Meaning → Type 0
Keeps m = (c k b : List ℕ) → length c ≡ m.words → length (m.phi c k b) ≡ m.words

pub chained_sized : (m : Meaning) → Keeps m → m.words ≤ 8 → (c k bytes : List ℕ) (n : ℕ) → length c ≡ 8 → length (chained m c k bytes n) ≡ 8
chained_sized m keeps few c k bytes zero l = l
chained_sized m keeps few c k bytes (suc n) l =
    let s = chained m c k bytes n in
    let before : length s ≡ 8 = chained_sized m keeps few c k bytes n l in
    let own : length (take m.words s) ≡ m.words = simp length-take (omega arith) in
    let out = keeps (take m.words s) (take m.added k) (take 64 (drop (64 * n) bytes)) own in
    length-append (m.phi (take m.words s) (take m.added k) (take 64 (drop (64 * n) bytes))) (drop m.words s) ∙ (let rest = length-drop m.words s in omega arith)
