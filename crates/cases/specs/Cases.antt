-- Worked cases of the rules: block counts, the repeated key, headers and the range of a level. Assumes nothing.
use Rattle.std.specs.Prelude.{◌≡◌, [], ◌∷◌}
use Rattle.hash.specs.Meaning.{blocks}
use Rattle.mdxmac.specs.Mdx.{K'}
use Rattle.frame.specs.Sealing.{HeaderCases}

abbrev pub WorkedCases : Type 0
WorkedCases =
    (blocks 0 ≡ 1) × (blocks 55 ≡ 1) × (blocks 56 ≡ 2) × (blocks 64 ≡ 2) × (blocks 119 ≡ 2) × (blocks 120 ≡ 3) ×
    (K' (0xa1 ∷ 0xb2 ∷ 0xc3 ∷ []) ≡ 0xa1 ∷ 0xb2 ∷ 0xc3 ∷ 0xa1 ∷ 0xb2 ∷ 0xc3 ∷ 0xa1 ∷ 0xb2 ∷ 0xc3 ∷ 0xa1 ∷ 0xb2 ∷ 0xc3 ∷ 0xa1 ∷ 0xb2 ∷ 0xc3 ∷ 0xa1 ∷ []) ×
    HeaderCases
