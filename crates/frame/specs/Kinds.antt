-- The kinds of a frame and their numbers. Assumes nothing.
use Rattle.std.specs.Prelude.{◌≡◌, ℕ, ◌<◌, Result, MatchResult}
use Rattle.refusals.specs.declared.Refusal.{Refusal}
use Rattle.refusals.specs.declared.Refusal.TheVariants.{Kind as NoKind}
use Rattle.frame.specs.declared.kind.Kind.{Kind}
use Rattle.frame.specs.declared.kind.Kind.TheVariants.{Level, Sheet}

abbrev pub kind_number : Kind → ℕ
kind_number Level = 0
kind_number Sheet = 1

-- the kind with this number; of a number that no kind has, question 13
abbrev pub Decodes : ℕ → Result Kind Refusal → Type 0
Decodes number r = MatchResult r (λ k. kind_number k ≡ number) (λ e. (e ≡ NoKind) × (1 < number))
