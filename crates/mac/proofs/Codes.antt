-- The tag as the front of a chain's code. Assumes nothing.
use Rattle.std.proofs.Common.{◌≡◌, ℕ, ◌*◌, ◌≤◌, true, List, ◌++◌, length, take, sym, ap, ◌∙◌, arith, length-take}
use Rattle.std.proofs.lemmas.List.{take_at, take-take}
use Rattle.hash.specs.Meaning.{Meaning, code}
use Rattle.hash.proofs.Close.{code_sized}
use Rattle.mac.specs.declared.Span.{Span}
use Rattle.mac.specs.Face.{within}
use Rattle.mac.proofs.Spans.{at_most}

module _ (m : Meaning) where
  pub code_first : (chain rest b : List ℕ) → length (code m chain) ≡ 4 * m.words → b ≡ code m chain ++ rest → take (4 * m.words) b ≡ code m chain
  code_first chain rest b l is_b = ap (take (4 * m.words)) is_b ∙ take_at (code m chain) rest (4 * m.words) l

  -- the first t bytes of a block that begins with a code
  pub tag_first : (s : Span) (b c : List ℕ) (t : ℕ) → s.most ≤ 4 * m.words → within s t ≡ true → take (4 * m.words) b ≡ c → take t b ≡ take t c
  tag_first s b c t le fits isC =
      let most = at_most s t fits in
      sym (take-take t (4 * m.words) b (omega arith)) ∙ ap (take t) isC

  pub tag_sized : (s : Span) (chain : List ℕ) (t : ℕ) → length chain ≡ 8 → m.words ≤ 8 → s.most ≤ 4 * m.words → within s t ≡ true → length (take t (code m chain)) ≡ t
  tag_sized s chain t l few le fits =
      let most = at_most s t fits in
      let size = code_sized m.order m.words chain l few in
      length-take t (code m chain) ∙ (omega arith)
