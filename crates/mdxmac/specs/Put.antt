-- Bytes written over others. Assumes nothing.
use Rattle.std.specs.Prelude.{◌≡◌, ℕ, zero, suc, ◌+◌, ◌-◌, ◌%◌, ◌<◌, ◌≤◌, List, [], ◌∷◌, ◌++◌, length, take, drop, set, bit_xor, slice_index, slice_index_or, slice_set, refl}
use Rattle.std.proofs.Common.{ap, ◌∙◌, sym, append_assoc, append-nil, ⊎_elim, mod-eq_of_lt, arith, take-append-drop, length-drop, length-take, length-append}
use Rattle.std.proofs.Math.Nat.{mod-eq-sub-mod}
use Rattle.std.proofs.Math.Seq.{drop-append-add}
use borrow.Rule.Slice.PartMut.{put_mid}
use Rattle.std.proofs.lemmas.List.{take_at, drop_at, drop_all, drop-drop, drop_more, take_more, set_at, take_all, get_or_at, get_or-take, get_or-drop, get_or_append_left, get_or-append_right}
use Rattle.std.proofs.lemmas.Bool.{cases_lt}
use Rattle.mdxmac.specs.Bytes.{put, both, repeated}
use Rattle.mdxmac.specs.Mdx.{K'}

-- a copy to a part
pub copied : (b w xs : List ℕ) (at n : ℕ) → w ≡ xs → n ≡ length xs → put_mid at n b w ≡ put at xs b
copied b w xs at n isW isN =
    let past : drop n (drop at b) ≡ drop (at + length xs) b = drop-drop n at b ∙ ap (λ (i : ℕ). drop (at + i) b) isN in
    rw (past, isW)

-- one byte more
pub put_more : (b xs : List ℕ) (at i : ℕ) → i < length xs → at + i < length b → slice_set (put at (take i xs) b) (at + i) (slice_index xs i) ≡ put at (take (i + 1) xs) b
put_more b xs at i lt inside =
    let size : length (take i xs) ≡ i = simp length-take (omega arith) in
    let size1 : length (take (i + 1) xs) ≡ i + 1 = simp length-take (omega arith) in
    let F = take at b ++ take i xs in
    let sizeF : length F ≡ at + i = simp (length-append, length-take) (omega arith) in
    let here : put at (take i xs) b ≡ F ++ slice_index b (at + i) ∷ drop (at + i + 1) b =
    ap (λ (j : ℕ). take at b ++ (take i xs ++ drop (at + j) b)) size ∙ sym (append_assoc (take at b) (take i xs) (drop (at + i) b)) ∙ ap (λ (ys : List ℕ). F ++ ys) (drop_more b (at + i) 0 inside) in
    let there : put at (take (i + 1) xs) b ≡ F ++ slice_index xs i ∷ drop (at + i + 1) b =
    ap (λ (j : ℕ). take at b ++ (take (i + 1) xs ++ drop j b)) (let e : at + length (take (i + 1) xs) ≡ at + i + 1 = omega arith in e)
    ∙ ap (λ (ys : List ℕ). take at b ++ (ys ++ drop (at + i + 1) b)) (take_more xs i 0 lt)
    ∙ ap (λ (ys : List ℕ). take at b ++ ys) (append_assoc (take i xs) (slice_index xs i ∷ []) (drop (at + i + 1) b))
    ∙ sym (append_assoc (take at b) (take i xs) (slice_index xs i ∷ drop (at + i + 1) b)) in
    ap (λ (ys : List ℕ). set ys (at + i) (slice_index xs i)) here ∙ set_at F (slice_index b (at + i)) (drop (at + i + 1) b) (slice_index xs i) (at + i) sizeF ∙ sym there

-- a byte past those written is as it was
pub put_past : (b xs : List ℕ) (at i : ℕ) → length xs ≡ i → at + i < length b → slice_index (put at xs b) (at + i) ≡ slice_index b (at + i)
put_past b xs at i size inside =
    let F = take at b ++ xs in
    let sizeF : length F ≡ at + i = simp (length-append, length-take) (omega arith) in
    let here : put at xs b ≡ F ++ slice_index b (at + i) ∷ drop (at + i + 1) b =
    ap (λ (j : ℕ). take at b ++ (xs ++ drop (at + j) b)) size ∙ sym (append_assoc (take at b) xs (drop (at + i) b)) ∙ ap (λ (ys : List ℕ). F ++ ys) (drop_more b (at + i) 0 inside) in
    ap (λ (ys : List ℕ). slice_index ys (at + i)) here ∙ get_or_at F (slice_index b (at + i)) (drop (at + i + 1) b) 0 (at + i) sizeF

pub put_none : (b xs : List ℕ) (at : ℕ) → at ≤ length b → b ≡ put at (take 0 xs) b
put_none b xs at le = sym (ap (λ (j : ℕ). take at b ++ drop j b) (let e : at + 0 ≡ at = omega arith in e) ∙ take-append-drop at b)

-- two writes, one after the other
pub put_put : (b xs ys : List ℕ) (at next : ℕ) → at + length xs ≤ length b → next ≡ at + length xs → put next ys (put at xs b) ≡ put at (xs ++ ys) b
put_put b xs ys at next le isNext =
    let F = take at b ++ xs in
    let D = drop (at + length xs) b in
    let sizeF : length F ≡ next = simp (length-append, length-take) (omega arith) in
    let whole : put at xs b ≡ F ++ D = sym (append_assoc (take at b) xs D) in
    let front : take next (put at xs b) ≡ F = ap (take next) whole ∙ take_at F D next sizeF in
    let place : next + length ys ≡ length F + length ys = omega arith in
    let deep : at + length xs + length ys ≡ at + length (xs ++ ys) = simp length-append (omega arith) in
    let back : drop (next + length ys) (put at xs b) ≡ drop (at + length (xs ++ ys)) b =
    ap (λ (j : ℕ). drop j (put at xs b)) place ∙ ap (drop (length F + length ys)) whole ∙ drop-append-add F D (length ys) ∙ drop-drop (length ys) (at + length xs) b ∙ ap (λ (j : ℕ). drop j b) deep in
    ap (λ (zs : List ℕ). zs ++ (ys ++ drop (next + length ys) (put at xs b))) front
    ∙ ap (λ (zs : List ℕ). F ++ (ys ++ zs)) back
    ∙ append_assoc (take at b) xs (ys ++ drop (at + length (xs ++ ys)) b)
    ∙ ap (λ (zs : List ℕ). take at b ++ zs) (sym (append_assoc xs ys (drop (at + length (xs ++ ys)) b)))

-- the whole block written
pub put_all : (b xs : List ℕ) → length b ≤ length xs → put 0 xs b ≡ xs
put_all b xs le = ap (λ (ys : List ℕ). xs ++ ys) (drop_all (0 + length xs) b (omega arith)) ∙ append-nil xs

pub length-put : (b xs : List ℕ) (at : ℕ) → at + length xs ≤ length b → length (put at xs b) ≡ length b
length-put b xs at le = simp (length-append, length-take, length-drop) (omega arith)

-- bytes of the key repeated
pub length-repeated : (key : List ℕ) (n : ℕ) → 1 ≤ length key → n ≤ length (repeated n key)
length-repeated key zero some = omega arith
length-repeated key (suc n) some = simp length-append (omega (arith, length-repeated key n some))

pub slice_index-repeated : (key : List ℕ) (n i : ℕ) → 1 ≤ length key → i < n → slice_index (repeated n key) i ≡ slice_index key (i % length key)
slice_index-repeated key zero i some lt = absurd (omega arith)
slice_index-repeated key (suc n) i some lt =
    ⊎_elim
    (λ (less : i < length key). get_or_append_left key (repeated n key) 0 i less ∙ ap (λ (j : ℕ). slice_index key j) (sym (mod-eq_of_lt less)))
    (λ (le : length key ≤ i).
    get_or-append_right key (repeated n key) (length key) i 0 refl le ∙ slice_index-repeated key n (i - length key) some (omega arith)
    ∙ ap (λ (j : ℕ). slice_index key j) (sym (mod-eq-sub-mod le)))
    (cases_lt i (length key))

pub length-K' : (key : List ℕ) → 1 ≤ length key → length (K' key) ≡ 16
unfolding K'
length-K' key some = simp length-take (omega (arith, length-repeated key 16 some))

pub slice_index-K' : (key : List ℕ) (i : ℕ) → 1 ≤ length key → i < 16 → slice_index (K' key) i ≡ slice_index key (i % length key)
unfolding K'
slice_index-K' key i some lt = get_or-take 16 (repeated 16 key) i 0 lt ∙ slice_index-repeated key 16 i some lt

-- an empty key has none
pub put_nothing : (b key : List ℕ) (at : ℕ) → length key ≡ 0 → at ≤ length b → b ≡ put at (K' key) b
unfolding K'
put_nothing b [] at e le = put_none b [] at le
put_nothing b (k ∷ ks) at e le = absurd (omega arith)

-- bytes under bytes
pub length_both : (xs ys : List ℕ) → length xs ≡ length ys → length (both xs ys) ≡ length xs
length_both [] ys e = refl
length_both (x ∷ xs) [] e = sym e
length_both (x ∷ xs) (y ∷ ys) e = ap suc (length_both xs ys (omega arith))

pub slice_index-both : (xs ys : List ℕ) (i : ℕ) → length xs ≡ length ys → i < length xs → slice_index (both xs ys) i ≡ bit_xor (slice_index xs i) (slice_index ys i)
slice_index-both [] ys i e lt = absurd (omega arith)
slice_index-both (x ∷ xs) [] i e lt = absurd (omega arith)
slice_index-both (x ∷ xs) (y ∷ ys) zero e lt = refl
slice_index-both (x ∷ xs) (y ∷ ys) (suc i) e lt = slice_index-both xs ys i (omega arith) (omega arith)

-- a loop that writes the bytes of xs one by one
pub put_step : (b0 b xs : List ℕ) (at i v : ℕ) → b ≡ put at (take i xs) b0 → v ≡ slice_index xs i → i < length xs → at + i < length b0 → slice_set b (at + i) v ≡ put at (take (i + 1) xs) b0
put_step b0 b xs at i v is_b isV lt inside = ap (λ (ys : List ℕ). set ys (at + i) v) is_b ∙ ap (λ (y : ℕ). set (put at (take i xs) b0) (at + i) y) isV ∙ put_more b0 xs at i lt inside

pub put_end : (b0 b xs : List ℕ) (at i : ℕ) → b ≡ put at (take i xs) b0 → length xs ≤ i → b ≡ put at xs b0
put_end b0 b xs at i is_b le = is_b ∙ ap (λ (ys : List ℕ). put at ys b0) (take_all i xs le)

-- the byte that a turn of the mixing loop writes
pub mix_byte : (b0 b with : List ℕ) (at i v : ℕ) → length b0 ≡ 64 → length with ≡ 16 → at ≤ 48 → i < 16 → b ≡ put at (take i (both (take 16 (drop at b0)) with)) b0 →
    bit_xor (slice_index b (at + i)) (slice_index with i) ≡ slice_index (both (take 16 (drop at b0)) with) i
mix_byte b0 b with at i v l lw le lt is_b =
    let part = take 16 (drop at b0) in
    let sized : length part ≡ 16 = simp (length-take, length-drop) (omega arith) in
    let X = both part with in
    let long : length X ≡ 16 = length_both part with (omega arith) ∙ sized in
    let cut : length (take i X) ≡ i = simp length-take (omega arith) in
    let was : slice_index_or b (at + i) 0 ≡ slice_index_or b0 (at + i) 0 = ap (λ (ys : List ℕ). slice_index ys (at + i)) is_b ∙ put_past b0 (take i X) at i cut (omega arith) in
    let there : slice_index_or part i 0 ≡ slice_index_or b0 (at + i) 0 = get_or-take 16 (drop at b0) i 0 lt ∙ get_or-drop at b0 i 0 in
    ap (λ (y : ℕ). bit_xor y (slice_index with i)) (was ∙ sym there) ∙ sym (slice_index-both part with i (omega arith) (omega arith))

pub mix_sized : (b0 with : List ℕ) (at : ℕ) → length b0 ≡ 64 → length with ≡ 16 → at ≤ 48 → length (both (take 16 (drop at b0)) with) ≡ 16
mix_sized b0 with at l lw le =
    let sized : length (take 16 (drop at b0)) ≡ 16 = simp (length-take, length-drop) (omega arith) in
    length_both (take 16 (drop at b0)) with (omega arith) ∙ sized

pub three_put : (b0 b1 b2 b3 s0 s1 s2 : List ℕ) (at : ℕ) → at ≤ 16 → length b0 ≡ 64 → length s0 ≡ 16 → length s1 ≡ 16 → length s2 ≡ 16 →
    b1 ≡ put at s0 b0 → b2 ≡ put (at + 16) s1 b1 → b3 ≡ put (at + 32) s2 b2 → b3 ≡ put at (s0 ++ (s1 ++ s2)) b0
three_put b0 b1 b2 b3 s0 s1 s2 at le l l0 l1 l2 is1 is2 is3 =
    let long : length (s0 ++ s1) ≡ 32 = simp length-append (omega arith) in
    let two : b2 ≡ put at (s0 ++ s1) b0 = is2 ∙ ap (put (at + 16) s1) is1 ∙ put_put b0 s0 s1 at (at + 16) (omega arith) (omega arith) in
    is3 ∙ ap (put (at + 32) s2) two ∙ put_put b0 (s0 ++ s1) s2 at (at + 32) (omega arith) (omega arith) ∙ ap (λ (xs : List ℕ). put at xs b0) (append_assoc s0 s1 s2)

-- a block written whole in two parts
pub two_put : (b b1 b2 xs ys : List ℕ) (n : ℕ) → length b ≡ 64 → n ≡ length xs → length xs + length ys ≡ 64 → b1 ≡ put 0 xs b → b2 ≡ put n ys b1 → b2 ≡ xs ++ ys
two_put b b1 b2 xs ys n l isN all is1 is2 =
    is2 ∙ ap (put n ys) is1 ∙ put_put b xs ys 0 n (omega arith) (omega arith) ∙ put_all b (xs ++ ys) (simp length-append (omega arith))

-- a part of a block mixed
pub mix_at : (b c xs ys zs k : List ℕ) (at : ℕ) → at ≡ length xs → length ys ≡ 16 → length k ≡ 16 → b ≡ xs ++ (ys ++ zs) → c ≡ put at (both (take 16 (drop at b)) k) b → c ≡ xs ++ (both ys k ++ zs)
mix_at b c xs ys zs k at is_at ly lk is_b isC =
    let W = ys ++ zs in
    let part : take 16 (drop at b) ≡ ys = ap (λ (bs : List ℕ). take 16 (drop at bs)) is_b ∙ ap (take 16) (drop_at xs W at (sym is_at)) ∙ take_at ys zs 16 ly in
    let long : length (both ys k) ≡ 16 = length_both ys k (omega arith) ∙ ly in
    let front : take at b ≡ xs = ap (take at) is_b ∙ take_at xs W at (sym is_at) in
    let place : at + length (both ys k) ≡ length xs + 16 = omega arith in
    let back : drop (at + length (both ys k)) b ≡ zs =
    ap (λ (j : ℕ). drop j b) place ∙ ap (drop (length xs + 16)) is_b ∙ drop-append-add xs W 16 ∙ drop_at ys zs 16 ly in
    isC ∙ ap (λ (ws : List ℕ). put at (both ws k) b) part ∙ ap (λ (ws : List ℕ). ws ++ (both ys k ++ drop (at + length (both ys k)) b)) front ∙ ap (λ (ws : List ℕ). xs ++ (both ys k ++ ws)) back

pub laid_last : (b b1 b2 b3 b4 b5 k t0 t1 t2 : List ℕ) → length b ≡ 64 → length k ≡ 16 → length t0 ≡ 16 → length t1 ≡ 16 → length t2 ≡ 16 →
    b1 ≡ put 0 k b → b2 ≡ put 16 (t0 ++ (t1 ++ t2)) b1 →
    b3 ≡ put 16 (both (take 16 (drop 16 b2)) k) b2 → b4 ≡ put 32 (both (take 16 (drop 32 b3)) k) b3 → b5 ≡ put 48 (both (take 16 (drop 48 b4)) k) b4 →
    b5 ≡ k ++ (both t0 k ++ (both t1 k ++ both t2 k))
laid_last b b1 b2 b3 b4 b5 k t0 t1 t2 l lk l0 l1 l2 is1 is2 is3 is4 is5 =
    let x0 = both t0 k in
    let x1 = both t1 k in
    let x2 = both t2 k in
    let s0 : length x0 ≡ 16 = length_both t0 k (omega arith) ∙ l0 in
    let s1 : length x1 ≡ 16 = length_both t1 k (omega arith) ∙ l1 in
    let start : b2 ≡ k ++ (t0 ++ (t1 ++ t2)) = two_put b b1 b2 k (t0 ++ (t1 ++ t2)) 16 l (sym lk) (simp (length-append) (omega arith)) is1 is2 in
    let one : b3 ≡ (k ++ x0) ++ (t1 ++ t2) = mix_at b2 b3 k t0 (t1 ++ t2) k 16 (sym lk) l0 lk start is3 ∙ sym (append_assoc k x0 (t1 ++ t2)) in
    let size1 : 32 ≡ length (k ++ x0) = simp length-append (omega arith) in
    let two : b4 ≡ ((k ++ x0) ++ x1) ++ (t2 ++ []) =
    mix_at b3 b4 (k ++ x0) t1 t2 k 32 size1 l1 lk one is4 ∙ sym (append_assoc (k ++ x0) x1 t2) ∙ ap (λ (ws : List ℕ). ((k ++ x0) ++ x1) ++ ws) (sym (append-nil t2)) in
    let size2 : 48 ≡ length ((k ++ x0) ++ x1) = simp length-append (omega arith) in
    let three : b5 ≡ ((k ++ x0) ++ x1) ++ (x2 ++ []) = mix_at b4 b5 ((k ++ x0) ++ x1) t2 [] k 48 size2 l2 lk two is5 in
    three ∙ ap (λ (ws : List ℕ). ((k ++ x0) ++ x1) ++ ws) (append-nil x2) ∙ append_assoc (k ++ x0) x1 x2 ∙ append_assoc k x0 (x1 ++ x2)
