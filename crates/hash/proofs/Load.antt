-- The words of a block, made one by one from its chunks of four bytes. Assumes nothing.
use Rattle.std.proofs.Common.{◌≡◌, ℕ, zero, suc, ◌+◌, ◌*◌, ◌<◌, ◌≤◌, List, length, get_or, take, drop, sym, refl, ap, ◌∙◌, arith}
use Rattle.std.proofs.lemmas.List.{take_all, take_more, get_or-take, get_or-drop}
use Rattle.std.specs.Simd.{first_chunks}
use Rattle.hash.specs.declared.ByteOrder.{ByteOrder}
use Rattle.hash.specs.Words.{word_of, word, words}
use Rattle.hash.proofs.Chain.{chunk_is}

-- a word, read from its chunk
pub word_in : (o : ByteOrder) (block w d : List ℕ) (chunks : List (List ℕ)) (i x : ℕ) → chunks ≡ first_chunks 4 16 block → i < 16 → w ≡ get_or chunks i d →
    x ≡ word_of o (get_or w 0 0) (get_or w 1 0) (get_or w 2 0) (get_or w 3 0) → x ≡ word o block i
unfolding word
word_in o block w d chunks i x cut lt is r =
    let whole : w ≡ take 4 (drop (4 * i) block) = is ∙ chunk_is 4 16 i block d chunks cut lt in
    let byte : (j : ℕ) → j < 4 → get_or w j 0 ≡ get_or block (4 * i + j) 0 =
    λ j near. ap (λ (bs : List ℕ). get_or bs j 0) whole ∙ get_or-take 4 (drop (4 * i) block) j 0 near ∙ get_or-drop (4 * i) block j 0 in
    let first : get_or w 0 0 ≡ get_or block (4 * i) 0 = byte 0 (omega arith) ∙ ap (λ (j : ℕ). get_or block j 0) (omega arith) in
    r ∙ rw (first, byte 1 (omega arith), byte 2 (omega arith), byte 3 (omega arith))

words_by : (o : ByteOrder) (block xs : List ℕ) (n : ℕ) → n ≤ length xs → ((k : ℕ) → k < n → get_or xs k 0 ≡ word o block k) → take n xs ≡ words o block n
unfolding words
words_by o block xs zero le each = refl
words_by o block xs (suc n) le each =
    ap (λ (i : ℕ). take i xs) (let e : suc n ≡ n + 1 = omega arith in e) ∙ take_more xs n 0 (omega arith)
    ∙ rw (each n (omega arith), words_by o block xs n (omega arith) (λ k lt. each k (omega arith)))

pub words_all : (o : ByteOrder) (block xs : List ℕ) (n : ℕ) → length xs ≡ n → ((k : ℕ) → k < n → get_or xs k 0 ≡ word o block k) → xs ≡ words o block n
words_all o block xs n long each = sym (take_all n xs (omega arith)) ∙ words_by o block xs n (omega arith) each
