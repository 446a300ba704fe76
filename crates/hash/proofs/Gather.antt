-- A piece joined to the bytes that a block holds. Assumes nothing.
use Rattle.std.proofs.Common.{◌≡◌, ℕ, ◌+◌, ◌-◌, ◌*◌, ◌/◌, ◌%◌, ◌<◌, ◌≤◌, cond, eqb, List, [], ◌++◌, length, take, drop, sym, refl, ap, ◌∙◌, append_assoc, append-nil, arith, lit<, length-append, length-drop, take-append-drop, length-take}
use Rattle.std.proofs.lemmas.Bool.{ne_eqb}
use lib.Seq.{drop-append-add}
use Rattle.std.proofs.lemmas.List.{take_all, take_at, drop_all, drop_at}
use Rattle.hash.specs.Meaning.{Meaning, step, chained}
use Rattle.hash.specs.Held.{filled, tail_after, copied, joined, whole_blocks, rest_of, laid_over, kept_of}
use Rattle.hash.specs.Meter.{after}
use Rattle.hash.proofs.Message.{chained_append}
use Rattle.hash.proofs.Turns.{after_one, after_after}

-- a rest, laid over a block from its start
pub from_start : (held rest : List ℕ) → length rest ≤ length held → filled held 0 rest ≡ laid_over rest held
from_start held piece le =
    let all : copied held 0 piece ≡ length piece = omega arith in
    let whole : take (length piece) piece ≡ piece = take_all (length piece) piece (omega arith) in
    rw (all, whole)

pub rest_sized : (piece : List ℕ) → length (rest_of piece) ≡ length piece % 64
rest_sized piece = simp length-drop (omega arith)

-- a block that holds nothing
pub empty_blocks : (piece : List ℕ) → whole_blocks 0 piece ≡ length piece / 64
empty_blocks piece = omega arith

module _ (held : List ℕ) (at : ℕ) (piece : List ℕ) (l : length held ≡ 64) (a : at < 64) where
  sized : length (take at held) ≡ at
  sized = simp length-take (omega arith)

  joined_sized : length (joined held at piece) ≡ at + length piece
  joined_sized = simp length-append (omega (arith, sized))

  left_sized : length (drop (64 * whole_blocks at piece) (joined held at piece)) ≡ (at + length piece) % 64
  left_sized = simp length-drop (omega (arith, joined_sized))

  -- what is left stands first
  pub kept_front : take ((at + length piece) % 64) (kept_of held at piece) ≡ drop (64 * whole_blocks at piece) (joined held at piece)
  kept_front = take_at (drop (64 * whole_blocks at piece) (joined held at piece)) _ ((at + length piece) % 64) left_sized

  -- a piece that finds bytes held, and does not fill the block
  pub short_held : (out : List ℕ) → (at ≡ 0 → ⊥) → out ≡ filled held at piece → length piece < 64 - at → out ≡ kept_of held at piece
  short_held out some e lt =
      let all : copied held at piece ≡ length piece = omega arith in
      let whole : take (length piece) piece ≡ piece = take_all (length piece) piece (omega arith) in
      let rest : List ℕ = drop (length piece) (drop at held) in
      let J = joined held at piece in
      let F : filled held at piece ≡ J ++ rest = (rw (all, whole) (sym (append_assoc (take at held) piece rest))) in
      let none : 64 * whole_blocks at piece ≡ 0 = omega arith in
      let back : drop (length J) (filled held at piece) ≡ rest = ap (drop (length J)) F ∙ drop_at J rest (length J) refl in
      let over : cond (eqb at 0) held (filled held at piece) ≡ filled held at piece = rw (ne_eqb at 0 some) in
      e ∙ F ∙ sym (ap (λ (i : ℕ). laid_over (drop i J) (cond (eqb at 0) held (filled held at piece))) none ∙ ap (laid_over J) over ∙ ap (λ (xs : List ℕ). J ++ xs) back)

  module _ (le : 64 - at ≤ length piece) where
    -- the block once it is full, and the tail of the piece
    block : List ℕ
    block = take at held ++ take (64 - at) piece

    tail : List ℕ
    tail = drop (64 - at) piece

    room : copied held at piece ≡ 64 - at
    room = omega arith

    full : filled held at piece ≡ block
    unfolding block
    full =
        let none : drop (64 - at) (drop at held) ≡ [] = drop_all (64 - at) (drop at held) (simp length-drop (omega arith)) in
        rw (room, none, append-nil)

    left : tail_after held at piece ≡ tail
    unfolding tail
    left = rw room

    block_sized : length block ≡ 64
    unfolding block
    block_sized = simp (length-append, length-take) (omega arith)

    tail_sized : length tail ≡ at + length piece - 64
    unfolding tail
    tail_sized = simp length-drop (omega arith)

    whole : joined held at piece ≡ block ++ tail
    unfolding block tail
    whole = sym (append_assoc (take at held) (take (64 - at) piece) (drop (64 - at) piece) ∙ ap (λ (xs : List ℕ). take at held ++ xs) (take-append-drop (64 - at) piece))

    pub full_sized : (F : List ℕ) → F ≡ filled held at piece → length F ≡ 64
    full_sized F e = ap length (e ∙ full) ∙ block_sized

    pub full_chain : (m : Meaning) (c k F T c1 out : List ℕ) → F ≡ filled held at piece → T ≡ tail_after held at piece →
        c1 ≡ step m c k F → out ≡ chained m c1 k T (length T / 64) →
        out ≡ chained m c k (joined held at piece) (whole_blocks at piece)
    full_chain m c k F T c1 out isF isT isC isOut =
        let F-is : F ≡ block = isF ∙ full in
        let T-is : T ≡ tail = isT ∙ left in
        let one : take 64 block ≡ block = take_all 64 block (omega (arith, block_sized)) in
        let first : chained m c k block 1 ≡ c1 = ap (λ (xs : List ℕ). step m c k xs) (one ∙ sym F-is) ∙ sym isC in
        let number : whole_blocks at piece ≡ 1 + length tail / 64 = omega (arith, tail_sized) in
        let joint = chained_append m c k block tail 1 (length tail / 64) (omega (arith, block_sized)) in
        isOut ∙ ap (λ (xs : List ℕ). chained m c1 k xs (length xs / 64)) T-is
        ∙ ap (λ (s : List ℕ). chained m s k tail (length tail / 64)) (sym first)
        ∙ sym joint
        ∙ sym (ap (λ (i : ℕ). chained m c k (joined held at piece) i) number ∙ ap (λ (xs : List ℕ). chained m c k xs (1 + length tail / 64)) whole)

    pub full_held : (F T out : List ℕ) → (at ≡ 0 → ⊥) → F ≡ filled held at piece → T ≡ tail_after held at piece → out ≡ laid_over (rest_of T) F → out ≡ kept_of held at piece
    full_held F T out some isF isT isOut =
        let T-is : T ≡ tail = isT ∙ left in
        let long : length T ≡ at + length piece - 64 = ap length T-is ∙ tail_sized in
        let place : 64 * whole_blocks at piece ≡ length block + 64 * (length T / 64) = omega (arith, block_sized) in
        let front : rest_of T ≡ drop (64 * whole_blocks at piece) (joined held at piece) =
        ap (drop (64 * (length T / 64))) T-is ∙ sym (rw (place, whole) (drop-append-add block tail (64 * (length T / 64)))) in
        let over : F ≡ cond (eqb at 0) held (filled held at piece) = isF ∙ sym (rw (ne_eqb at 0 some)) in
        isOut ∙ ap (λ (xs : List ℕ). laid_over xs F) front ∙ ap (laid_over (drop (64 * whole_blocks at piece) (joined held at piece))) over

    pub full_meter : {H : Type 0} (next : H → H) (h h1 h2 : H) (T : List ℕ) → T ≡ tail_after held at piece →
        h1 ≡ next h → h2 ≡ after next h1 (length T / 64) → h2 ≡ after next h (whole_blocks at piece)
    full_meter next h h1 h2 T isT p q =
        let long : length T ≡ at + length piece - 64 = ap length (isT ∙ left) ∙ tail_sized in
        let number : 1 + length T / 64 ≡ whole_blocks at piece = omega arith in
        q ∙ ap (λ x. after next x (length T / 64)) (p ∙ sym (after_one next h)) ∙ after_after next h 1 (length T / 64) ∙ ap (after next h) number

-- a piece that finds no bytes held
module _ (m : Meaning) (c k held piece : List ℕ) where
  pub empty_chain : (out : List ℕ) → out ≡ chained m c k piece (length piece / 64) → out ≡ chained m c k (joined held 0 piece) (whole_blocks 0 piece)
  empty_chain out e = e ∙ ap (λ (i : ℕ). chained m c k piece i) (sym (empty_blocks piece))

  pub empty_kept : (out : List ℕ) → out ≡ laid_over (rest_of piece) held → out ≡ kept_of held 0 piece
  empty_kept out e = e ∙ ap (λ (i : ℕ). laid_over (drop (64 * i) piece) held) (sym (empty_blocks piece))

pub empty_held : (held piece : List ℕ) → length held ≡ 64 → take (length piece % 64) (kept_of held 0 piece) ≡ drop (64 * (length piece / 64)) piece
empty_held held piece l =
    let place : length piece % 64 ≡ (0 + length piece) % 64 = omega arith in
    ap (λ (i : ℕ). take i (kept_of held 0 piece)) place ∙ kept_front held 0 piece l (lit< tt) ∙ ap (λ (i : ℕ). drop (64 * i) piece) (empty_blocks piece)
