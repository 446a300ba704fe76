-- The one block of a short message. Assumes nothing.
use Rattle.std.proofs.Common.{◌≡◌, ℕ, ◌+◌, ◌-◌, ◌*◌, ◌/◌, ◌≤◌, List, [], ◌++◌, length, take, drop, replicate, sym, refl, ap, ◌∙◌, append_assoc, append-nil, arith, length-append}
use borrow.Rule.Slice.PartMut.{put_mid}
use Rattle.std.proofs.lemmas.List.{length-replicate}
use Rattle.hash.specs.Meaning.{Meaning, step, chained, code}
use Rattle.hash.proofs.Close.{one_round}
use Rattle.mac.proofs.Codes.{code_first}
use Rattle.mdxmac.specs.Bytes.{put, both}
use Rattle.mdxmac.specs.Mdx.{K0, K1, K2}
use Rattle.mdxmac.specs.Short.{L, filled32, short_block, short_code}
use Rattle.mdxmac.specs.Put.{copied, put_put, two_put, mix_at, length_both}

pub message_put : (b M w f : List ℕ) (n size : ℕ) → length b ≡ 64 → n ≤ 32 → length M ≡ n → w ≡ M → f ≡ replicate size 0 → size ≡ 32 - n →
    put_mid (16 + n) (48 - (16 + n)) (put_mid 16 (16 + n - 16) b w) f ≡ put 16 (filled32 M) b
message_put b M w f n size l le lm isW isF isSize =
    let Z : List ℕ = replicate (32 - length M) 0 in
    let lz : length Z ≡ 32 - length M = length-replicate (32 - length M) 0 in
    let same : size ≡ 32 - length M = omega arith in
    let isZ : f ≡ Z = isF ∙ ap (λ (i : ℕ). replicate i 0) same in
    let one : put_mid 16 (16 + n - 16) b w ≡ put 16 M b = copied b w M 16 (16 + n - 16) isW (omega arith) in
    let two : put_mid (16 + n) (48 - (16 + n)) (put_mid 16 (16 + n - 16) b w) f ≡ put (16 + n) Z (put_mid 16 (16 + n - 16) b w) =
    copied (put_mid 16 (16 + n - 16) b w) f Z (16 + n) (48 - (16 + n)) isZ (omega arith) in
    two ∙ ap (put (16 + n) Z) one ∙ put_put b M Z 16 (16 + n) (omega arith) (omega arith)

length-filled32 : (M : List ℕ) → length M ≤ 32 → length (filled32 M) ≡ 32
length-filled32 M le = simp (length-append, length-replicate) (omega arith)

pub short_laid : (b b1 b2 b3 b4 k M : List ℕ) (n : ℕ) → length b ≡ 64 → length k ≡ 16 → length M ≡ n → n ≤ 32 →
    b1 ≡ put 0 k b → b2 ≡ put 16 (filled32 M) b1 → b3 ≡ put 48 (L n) b2 → b4 ≡ put 48 (both (take 16 (drop 48 b3)) k) b3 → b4 ≡ short_block k M
short_laid b b1 b2 b3 b4 k M n l lk lm le is1 is2 is3 is4 =
    let F = filled32 M in
    let lf : length F ≡ 32 = length-filled32 M (omega arith) in
    let N = L n in
    let lkf : length (k ++ F) ≡ 48 = length-append k F ∙ (omega arith) in
    let two : b2 ≡ put 0 (k ++ F) b = is2 ∙ ap (put 16 F) is1 ∙ put_put b k F 0 16 (omega arith) (omega arith) in
    let three : b3 ≡ (k ++ F) ++ (N ++ []) = two_put b b2 b3 (k ++ F) N 48 l (sym lkf) (omega arith) two is3 ∙ ap (λ (xs : List ℕ). (k ++ F) ++ xs) (sym (append-nil N)) in
    mix_at b3 b4 (k ++ F) N [] k 48 (sym lkf) refl lk three is4
    ∙ ap (λ (xs : List ℕ). (k ++ F) ++ xs) (append-nil (both N k)) ∙ append_assoc k F (both N k) ∙ ap (λ (i : ℕ). k ++ (F ++ both (L i) k)) (sym lm)

pub short_closed : (m : Meaning) (key bytes c k k2 M X O B Y : List ℕ) → length bytes ≤ 32 → c ≡ chained m (K0 m key) (K1 m key) bytes (length bytes / 64) → k ≡ K1 m key → k2 ≡ K2 m key → length k2 ≡ 16 →
    M ≡ bytes → X ≡ short_block k2 M → O ≡ step m c k X → length (code m O) ≡ 4 * m.words → B ≡ code m O ++ Y → take (4 * m.words) B ≡ short_code m key bytes
short_closed m key bytes c k k2 M X O B Y le isC isK isK2 l2 isM isX isO sizeO is_b =
    let zero64 : length bytes / 64 ≡ 0 = omega arith in
    let start : c ≡ K0 m key = isC ∙ ap (λ (i : ℕ). chained m (K0 m key) (K1 m key) bytes i) zero64 in
    let S = short_block k2 bytes in
    let lf : length (filled32 bytes) ≡ 32 = length-filled32 bytes le in
    let lb : length (both (L (length bytes)) k2) ≡ 16 = length_both (L (length bytes)) k2 (sym l2) in
    let long : length S ≡ 64 = length-append k2 (filled32 bytes ++ both (L (length bytes)) k2) ∙ (let more = length-append (filled32 bytes) (both (L (length bytes)) k2) in omega arith) in
    let block : X ≡ S = isX ∙ ap (short_block k2) isM in
    let end : O ≡ chained m c k S 1 = isO ∙ ap (λ (xs : List ℕ). step m c k xs) block ∙ sym (one_round m c k S long) in
    let all : O ≡ chained m (K0 m key) (K1 m key) (short_block (K2 m key) bytes) 1 =
    end ∙ ap (λ (x : List ℕ). chained m x k S 1) start ∙ ap (λ (x : List ℕ). chained m (K0 m key) x S 1) isK ∙ ap (λ (x : List ℕ). chained m (K0 m key) (K1 m key) (short_block x bytes) 1) isK2 in
    code_first m O Y B sizeO is_b ∙ ap (code m) all
