-- A window of sixteen words that is renewed in place holds one stretch of the schedule after another. Assumes nothing.
use Rattle.std.proofs.Common.{◌≡◌, ℕ, zero, suc, ◌+◌, ◌-◌, ◌%◌, ◌<◌, ◌≤◌, ◌≢◌, List, [], ◌∷◌, ◌++◌, length, get_or, sym, refl, ◌∙◌, inl, inr, add-one, arith}
use Rattle.std.proofs.lemmas.List.{length-set, length_push, get_or-set_same, get_or-set_other, get_or_append_left, get_or_push}
use Rattle.std.proofs.lemmas.Bool.{cases_lt}
use Rattle.hash.specs.declared.ByteOrder.{ByteOrder}
use Rattle.hash.specs.Words.{words}
use Rattle.hash.specs.Rounds.{extended, steps}
use Rattle.hash.specs.Windows.{renewed, Holds, Before}

-- a rule that looks only at the sixteen words before the one that it makes
abbrev pub Near : ((ℕ → ℕ) → ℕ → ℕ) → Type 0
Near later = (f g : ℕ → ℕ) (t : ℕ) → 16 ≤ t → ((d : ℕ) → 0 < d → d ≤ 16 → f (t - d) ≡ g (t - d)) → later f t ≡ later g t

pub sixteen_words : (order : ByteOrder) (block : List ℕ) → length (words order block 16) ≡ 16
unfolding words
sixteen_words order block = refl

-- a step past none of the first sixteen finds the window as it was
pub kept : (window ws : List ℕ) (t : ℕ) → t < 16 → Holds window ws t → Holds window ws (t + 1)
kept window ws t few held = record { sized = held.sized; here = λ m from to. held.here m (omega arith) (omega arith) }

module _ (later : (ℕ → ℕ) → ℕ → ℕ) (near : Near later) (ws : List ℕ) (sixteen : length ws ≡ 16) where
  extended_length : (n : ℕ) → length (extended later ws n) ≡ 16 + n
  unfolding extended
  extended_length zero = sixteen
  extended_length (suc n) = length_push (extended later ws n) _ ∙ (let l = extended_length n in omega arith)

  -- the first words are those of the block
  extended_first : (n m : ℕ) → m < 16 → get_or (extended later ws n) m 0 ≡ get_or ws m 0
  unfolding extended
  extended_first zero m h = refl
  extended_first (suc n) m h =
      let l = extended_length n in
      get_or_append_left (extended later ws n) _ 0 m (omega arith) ∙ extended_first n m h

  -- every other word follows the rule
  follows : (n t : ℕ) → 16 ≤ t → t < 16 + n → get_or (extended later ws n) t 0 ≡ later (λ m. get_or (extended later ws n) m 0) t
  unfolding extended
  follows zero t low high = absurd (omega arith)
  follows (suc n) t low high =
      let s = extended later ws n in
      let x = later (λ m. get_or s m 0) (16 + n) in
      let l = extended_length n in
      let same : (m : ℕ) → m < 16 + n → get_or s m 0 ≡ get_or (s ++ x ∷ []) m 0 = λ m h. sym (get_or_append_left s (x ∷ []) 0 m (omega arith)) in
      elim (cases_lt t (16 + n)) [
        | inl before ↦
            sym (same t before)
            ∙ follows n t low before
            ∙ near (λ m. get_or s m 0) (λ m. get_or (s ++ x ∷ []) m 0) t low (λ d some few. same (t - d) (omega arith))
        | inr last ↦
            let end : t ≡ 16 + n = omega arith in
            rw end (
            get_or_push s x 0 (16 + n) (omega arith)
            ∙ near (λ m. get_or s m 0) (λ m. get_or (s ++ x ∷ []) m 0) (16 + n) (omega arith) (λ d some few. same (16 + n - d) (omega arith))
            )
      ]

  -- the words of the block are the window before the first step
  pub begins : (n : ℕ) (window : List ℕ) → window ≡ ws → Holds window (extended later ws n) 0
  begins n window e = rw e record {
    sized = sixteen;
    here = λ m from to. let place : m % 16 ≡ m = omega arith in rw place (sym (extended_first n m (omega arith)));
  }

  -- word t takes the place of the one sixteen before it
  pub moves : (n t : ℕ) (window turn : List ℕ) → 16 ≤ t → t < 16 + n → Holds window (extended later ws n) t → turn ≡ renewed later window t →
      Holds turn (extended later ws n) (t + 1)
  unfolding renewed
  moves n t window turn past fits held e =
      let s = extended later ws n in
      let size = held.sized in
      let x = later (λ m. get_or window (m % 16) 0) t in
      let inside : t % 16 < length window = omega arith in
      let value : x ≡ get_or s t 0 =
      near (λ m. get_or window (m % 16) 0) (λ m. get_or s m 0) t past (λ d some few. held.here (t - d) (omega arith) (omega arith))
      ∙ sym (follows n t past fits) in
      rw e record {
        sized = length-set window (t % 16) x ∙ size;
        here = λ m from to.
            elim (cases_lt m t) [
              | inl before ↦
                  let other : m % 16 ≢ t % 16 = omega arith in
                  get_or-set_other window (t % 16) (m % 16) x 0 other ∙ held.here m (omega arith) (omega arith)
              | inr after ↦ let last : m ≡ t = omega arith in rw last (get_or-set_same window (t % 16) x 0 inside ∙ value)
            ];
      }

-- the window after step t holds its word
pub word_of : (window ws : List ℕ) (t : ℕ) → Holds window ws (t + 1) → get_or window (t % 16) 0 ≡ get_or ws t 0
word_of window ws t held = held.here t (omega arith) (omega arith)

-- one step more
pub goes_on : (one : List ℕ → ℕ → ℕ → List ℕ) (chain ws window s turn after : List ℕ) (t w : ℕ) → Before one chain ws window s t →
    Holds turn ws (t + 1) → w ≡ get_or ws t 0 → after ≡ one s t w → Before one chain ws turn after (t + 1)
unfolding steps
goes_on one chain ws window s turn after t w before held e made =
    record { held = held; done = rw (made, before.done, e, add-one) }
