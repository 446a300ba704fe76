-- A number's last digit after those before it. Assumes nothing.
use Rattle.std.proofs.Common.{◌≡◌, ℕ, ◌+◌, ◌/◌, ◌%◌, ◌^◌, ◌<◌, ◌≤◌, List, [], ◌∷◌, ◌++◌, length, decimal, sym, ap, ◌∙◌, append_assoc}
use Rattle.std.proofs.lemmas.List.{length_push}
use Rattle.std.proofs.lemmas.Fmt.{decimal_step, decimal_digit}

pub length-digit : (n : ℕ) → n < 10 → length (decimal n) ≡ 1
length-digit n h = ap length (decimal_digit n h)

pub length-step : (n : ℕ) → 10 ≤ n → n < 2 ^ 64 → length (decimal n) ≡ length (decimal (n / 10)) + 1
length-step n h small = ap length (decimal_step n h small) ∙ length_push (decimal (n / 10)) (48 + n % 10)

-- s, then the digits before the last, then the last
pub put_step : (s u w : List ℕ) (n : ℕ) → 10 ≤ n → n < 2 ^ 64 → u ≡ s ++ decimal (n / 10) → w ≡ u ++ (48 + n % 10) ∷ [] → w ≡ s ++ decimal n
put_step s u w n h small before last =
    last ∙ ap (λ l. l ++ (48 + n % 10) ∷ []) before ∙ append_assoc s (decimal (n / 10)) ((48 + n % 10) ∷ []) ∙ ap (λ l. s ++ l) (sym (decimal_step n h small))
