-- What the chain is after one block more. Assumes nothing.
use Rattle.std.proofs.Common.{◌≡◌, ℕ, zero, suc, ◌+◌, ◌*◌, ◌<◌, List, get_or, take, drop, ap, ◌∙◌, add-one, arith}
use Rattle.std.proofs.lemmas.List.{drop-drop}
use Rattle.std.specs.Simd.{first_chunks}
use Rattle.hash.specs.Meaning.{Meaning, step, chained}

-- chunk i of the first k of n bytes each
chunk_at : (n k i : ℕ) (xs d : List ℕ) → i < k → get_or (first_chunks n k xs) i d ≡ take n (drop (n * i) xs)
chunk_at n zero i xs d lt = absurd (omega arith)
chunk_at n (suc k) zero xs d lt = let none : 0 ≡ n * 0 = omega arith in ap (λ (j : ℕ). take n (drop j xs)) none
chunk_at n (suc k) (suc i) xs d lt = chunk_at n k i (drop n xs) d (omega arith) ∙ ap (take n) (drop-drop (n * i) n xs ∙ ap (λ (j : ℕ). drop j xs) place)
  where
    place : n + n * i ≡ n * suc i
    place = omega arith

pub chunk_is : (n k i : ℕ) (xs d : List ℕ) (chunks : List (List ℕ)) → chunks ≡ first_chunks n k xs → i < k → get_or chunks i d ≡ take n (drop (n * i) xs)
chunk_is n k i xs d chunks cut lt = ap (λ (cs : List (List ℕ)). get_or cs i d) cut ∙ chunk_at n k i xs d lt

pub chained_more : (m : Meaning) (c k bs s b : List ℕ) (n : ℕ) → s ≡ chained m c k bs n → b ≡ take 64 (drop (64 * n) bs) →
    step m s k b ≡ chained m c k bs (n + 1)
chained_more m c k bs s b n e f = rw (e, f, add-one)
