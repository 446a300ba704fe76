-- The chains that a key makes, and the end of a run. Assumes nothing.
use Rattle.std.specs.Prelude.{◌≡◌, ℕ, ◌+◌, ◌*◌, ◌/◌, ◌%◌, ◌<◌, ◌≤◌, List, ◌++◌, length, take, drop}
use Rattle.std.proofs.Common.{ap, ◌∙◌, sym, append_assoc, arith, length-append}
use Rattle.std.proofs.lemmas.List.{take-append-le}
use Rattle.hash.specs.Meaning.{Meaning, step, chained, code, blocks, padding, padded, closing, none}
use Rattle.hash.specs.Meter.{after}
use Rattle.hash.proofs.Message.{chained_append}
use Rattle.hash.proofs.Close.{one_round, Keeps, chained_sized}
use Rattle.hash.proofs.Join.{ends}
use Rattle.hash.proofs.Turns.{after_one, after_more, after_after}
use Rattle.mac.proofs.Codes.{code_first}
use Rattle.mdxmac.specs.Mdx.{K', three, U, mixed, K0, K1, K2, last, mdx_code}
use Rattle.mdxmac.specs.Put.{length-K', length_both}

-- the strings have 16 bytes each
abbrev pub Strings : Meaning → Type 0
Strings m = (i : ℕ) → i < 3 → length (m.strings i) ≡ 16

pub length_three : (m : Meaning) → Strings m → (i : ℕ) → length (three m i) ≡ 48
length_three m h i =
    let a = h (i % 3) (omega arith) in
    let b = h ((i + 1) % 3) (omega arith) in
    let c = h ((i + 2) % 3) (omega arith) in
    simp length-append (omega arith)

pub mixed_is : (m : Meaning) → Strings m → (key s B1 B2 c1 out : List ℕ) (i : ℕ) → 1 ≤ length key → s ≡ m.first → B1 ≡ K' key ++ three m i → B2 ≡ three m i ++ K' key →
    c1 ≡ step m s none B1 → out ≡ step m c1 none B2 → out ≡ mixed m i key
unfolding mixed
mixed_is m h key s B1 B2 c1 out i some isS is1 is2 isC isOut =
    let K = K' key in
    let T = three m i in
    let lk = length-K' key some in
    let lt = length_three m h i in
    let l1 : length (K ++ T) ≡ 64 = simp length-append (omega arith) in
    let l2 : length (T ++ K) ≡ 64 = simp length-append (omega arith) in
    let group : K ++ ((T ++ T) ++ K) ≡ (K ++ T) ++ (T ++ K) = ap (λ (xs : List ℕ). K ++ xs) (append_assoc T T K) ∙ sym (append_assoc K T (T ++ K)) in
    let c1-is : c1 ≡ chained m m.first none (K ++ T) 1 =
    isC ∙ ap (λ (x : List ℕ). step m x none B1) isS ∙ ap (λ (xs : List ℕ). step m m.first none xs) is1 ∙ sym (one_round m m.first none (K ++ T) l1) in
    let joint = chained_append m m.first none (K ++ T) (T ++ K) 1 1 (omega arith) in
    let all : length (K ++ (U m i ++ K)) / 64 ≡ 2 = simp length-append (omega arith) in
    isOut ∙ ap (λ (xs : List ℕ). step m c1 none xs) is2 ∙ sym (one_round m c1 none (T ++ K) l2) ∙ ap (λ (x : List ℕ). chained m x none (T ++ K) 1) c1-is ∙ sym joint
    ∙ sym (ap (λ (j : ℕ). chained m m.first none (K ++ (U m i ++ K)) j) all ∙ ap (λ (xs : List ℕ). chained m m.first none xs 2) group)

pub code_front : (c rest b : List ℕ) (w : ℕ) → 4 ≤ w → length c ≡ 4 * w → b ≡ c ++ rest → take 16 b ≡ take 16 c
code_front c rest b w le size is_b = ap (take 16) is_b ∙ take-append-le 16 c rest (omega arith)

module _ (m : Meaning) (h : Strings m) (key bytes : List ℕ) where
  pub closed : (c k k2 held I X O B Y : List ℕ) (fed : ℕ) → fed ≡ length bytes → c ≡ chained m (K0 m key) (K1 m key) bytes (length bytes / 64) → k ≡ K1 m key → k2 ≡ K2 m key → length k2 ≡ 16 →
      take (length bytes % 64) held ≡ drop (64 * (length bytes / 64)) bytes → I ≡ chained m c k (closing m.order held (fed % 64) fed) (blocks (fed % 64)) → X ≡ last m k2 → O ≡ step m I k X →
      length (code m O) ≡ 4 * m.words → B ≡ code m O ++ Y → take (4 * m.words) B ≡ mdx_code m key bytes
  closed c k k2 held I X O B Y fed isFed isC isK isK2 size2 is_held isI isX isO sizeO is_b =
      let n = length bytes in
      let R = take (n % 64) held in
      let j = blocks (n % 64) in
      let I1 : I ≡ chained m c (K1 m key) (R ++ padding m.order n) j =
      isI ∙ ap (λ (i : ℕ). chained m c k (closing m.order held (i % 64) i) (blocks (i % 64))) isFed ∙ ap (λ (x : List ℕ). chained m c x (R ++ padding m.order n) j) isK in
      let I2 : I ≡ chained m (K0 m key) (K1 m key) (padded m.order bytes) (blocks n) = ends m (K0 m key) (K1 m key) bytes c R I isC is_held I1 in
      let l0 = h 0 (omega arith) in
      let l1 = h 1 (omega arith) in
      let l2 = h 2 (omega arith) in
      let x0 = length_both (m.strings 0) k2 (omega arith) in
      let x1 = length_both (m.strings 1) k2 (omega arith) in
      let x2 = length_both (m.strings 2) k2 (omega arith) in
      let long : length (last m k2) ≡ 64 = simp length-append (omega arith) in
      let O1 : O ≡ chained m I k (last m k2) 1 = isO ∙ ap (λ (xs : List ℕ). step m I k xs) isX ∙ sym (one_round m I k (last m k2) long) in
      let O2 : O ≡ chained m I (K1 m key) (last m (K2 m key)) 1 = O1 ∙ ap (λ (x : List ℕ). chained m I x (last m k2) 1) isK ∙ ap (λ (x : List ℕ). chained m I (K1 m key) (last m x) 1) isK2 in
      code_first m O Y B sizeO is_b ∙ ap (code m) (O2 ∙ ap (λ (x : List ℕ). chained m x (K1 m key) (last m (K2 m key)) 1) I2)

module _ {H : Type 0} (next : H → H) (h : H) where
  -- the rounds of a message's end and of its last block
  pub end_turns : (h1 h2 : H) (p : ℕ) → h1 ≡ after next h (blocks p) → h2 ≡ next h1 → h2 ≡ after next h (blocks p + 1)
  end_turns h1 h2 p a b = b ∙ ap next a ∙ after_more next h (blocks p)

  pub two_turns : (h1 h2 : H) → h1 ≡ next h → h2 ≡ next h1 → h2 ≡ after next h 2
  two_turns h1 h2 a b = b ∙ ap next (a ∙ sym (after_one next h)) ∙ after_more next h 1

  -- three times two rounds
  pub six_turns : (h1 h2 h3 : H) → h1 ≡ after next h 2 → h2 ≡ after next h1 2 → h3 ≡ after next h2 2 → h3 ≡ after next h 6
  six_turns h1 h2 h3 a b c = c ∙ ap (λ x. after next x 2) (b ∙ ap (λ x. after next x 2) a ∙ after_after next h 2 2) ∙ after_after next h 4 2

pub mixed_sized : (m : Meaning) → Keeps m → m.words ≤ 8 → length m.first ≡ 8 → (i : ℕ) (key : List ℕ) → length (mixed m i key) ≡ 8
unfolding mixed
mixed_sized m keeps few l i key = chained_sized m keeps few m.first none (K' key ++ (U m i ++ K' key)) (length (K' key ++ (U m i ++ K' key)) / 64) l
