-- The front of a line that is held, and what it tells of the line. Assumes nothing.
use Rattle.std.proofs.Common.{◌≡◌, ℕ, ◌+◌, ◌<◌, ◌≤◌, List, [], ◌∷◌, ◌++◌, length, take, set, None, sym, ap, ◌∙◌, ⊎_elim, arith, length-take}
use Rattle.std.proofs.lemmas.List.{take_all, take-append-le, take_more_set, length_push}
use Rattle.std.proofs.lemmas.Bool.{lt-leb, cond-false, cases_lt}
use Rattle.requests.specs.Form.{asked_of}
use Rattle.requests.specs.Reply.{said, reply}

-- len bytes of a place of m are the first m of a line
module _ (m len : ℕ) (held line : List ℕ) (room : length held ≡ m) (front : take len held ≡ take m line) where
  pub front_more : (b : ℕ) → len < m → take (len + 1) (set held len b) ≡ take m (line ++ b ∷ [])
  front_more b lt =
      let long : length line ≤ len = omega (arith, length-take len held, length-take m line, ap length front) in
      take_more_set held len b (omega arith)
      ∙ ap (λ l. l ++ b ∷ []) (front ∙ take_all m line (omega arith))
      ∙ sym (take_all m (line ++ b ∷ []) (omega (arith, length_push line b)))

  pub front_full : (b : ℕ) → m ≤ len → take len held ≡ take m (line ++ b ∷ [])
  front_full b le =
      front ∙ sym (take-append-le m line (b ∷ []) (omega (arith, length-take len held, length-take m line, ap length front)))

  pub front_some : 0 < len → 0 < m → 0 < length line
  front_some h some = omega (arith, length-take len held, length-take m line, ap length front)

long_reply : (line : List ℕ) → 1024 < length line → reply line ≡ said None ++ 10 ∷ []
long_reply line h = ap (λ q. said q ++ 10 ∷ []) (cond-false _ (asked_of line) None (lt-leb (length line) 1024 h))

-- the first 1,025 bytes of a line decide the reply
pub reply_front : (line : List ℕ) → reply (take 1025 line) ≡ reply line
reply_front line =
    ⊎_elim
    (λ h. long_reply (take 1025 line) (omega (arith, length-take 1025 line)) ∙ sym (long_reply line h))
    (λ h. ap reply (take_all 1025 line (omega arith)))
    (cases_lt 1024 (length line))
