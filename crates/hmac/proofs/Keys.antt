-- The filled key as it is written, and under a pad. Assumes nothing.
use Rattle.std.proofs.Common.{◌≡◌, ℕ, ◌+◌, ◌-◌, ◌<◌, ◌≤◌, min, List, [], ◌∷◌, ◌++◌, length, get_or, take, drop, set, replicate, sym, ap, ◌∙◌, append_assoc, arith, length-append, length-take}
use lib.Bits.{bit_xor}
use native.Mathlib.Nat.{sub-zero}
use borrow.Rule.Slice.PartMut.{post_of}
use Rattle.std.proofs.lemmas.List.{take-take, drop-replicate, drop_more, set_at, map_more, length-map, length-replicate, take_all, get_or_at}
use Rattle.hmac.specs.Hmac.{xored, filled_key}

pub laid : (key w f : List ℕ) (n : ℕ) → n ≡ min (length key) 64 → w ≡ take n key → f ≡ replicate 64 0 → w ++ post_of 0 (n - 0) f ≡ filled_key (take 64 key)
laid key w f n isN isW isF =
    let K = take 64 key in
    let long : length K ≡ n = simp length-take (omega arith) in
    let same : take n key ≡ K = sym (take-take n 64 key (omega arith)) ∙ take_all n K (omega arith) in
    let rest : post_of 0 (n - 0) f ≡ replicate (64 - length K) 0 = ap (λ (i : ℕ). drop i f) (sub-zero n) ∙ ap (drop n) isF ∙ drop-replicate n 64 0 ∙ ap (λ (i : ℕ). replicate (64 - i) 0) (sym long) in
    rw (isW, same, rest)

pub xored_more : (pad : ℕ) (xs b : List ℕ) (i : ℕ) → i < length xs → b ≡ xored pad (take i xs) ++ drop i xs →
    set b i (bit_xor (get_or b i 0) pad) ≡ xored pad (take (i + 1) xs) ++ drop (i + 1) xs
xored_more pad xs b i lt is_b =
    let F = xored pad (take i xs) in
    let size : length F ≡ i = length-map (take i xs) (λ x. bit_xor x pad) ∙ simp length-take (omega arith) in
    let x = get_or xs i 0 in
    let now : b ≡ F ++ x ∷ drop (i + 1) xs = is_b ∙ ap (λ (ys : List ℕ). F ++ ys) (drop_more xs i 0 lt) in
    let here : get_or b i 0 ≡ x = ap (λ (ys : List ℕ). get_or ys i 0) now ∙ get_or_at F x (drop (i + 1) xs) 0 i size in
    let more : xored pad (take (i + 1) xs) ≡ F ++ bit_xor x pad ∷ [] = map_more (λ y. bit_xor y pad) xs i 0 lt in
    ap (λ (y : ℕ). set b i (bit_xor y pad)) here
    ∙ ap (λ (ys : List ℕ). set ys i (bit_xor x pad)) now ∙ set_at F x (drop (i + 1) xs) (bit_xor x pad) i size
    ∙ sym (ap (λ (ys : List ℕ). ys ++ drop (i + 1) xs) more ∙ append_assoc F (bit_xor x pad ∷ []) (drop (i + 1) xs))

pub padded_key : (pad : ℕ) (key : List ℕ) → length key ≤ 64 → length (xored pad (filled_key key)) ≡ 64
padded_key pad key le = length-map (filled_key key) (λ x. bit_xor x pad) ∙ simp (length-append, length-replicate) (omega arith)
