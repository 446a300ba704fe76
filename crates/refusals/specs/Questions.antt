-- Questions in their order: the first no is the refusal. Assumes nothing.
use Rattle.std.specs.Prelude.{Bool, cond, List, [], ◌∷◌, Some, None, Option}
use Rattle.refusals.specs.declared.Refusal.{Refusal}

-- a question's answer, with the refusal that a no is
pub record Question : Type 0 where
  pub passes : Bool
  pub refusal : Refusal

abbrev pub asks : Bool → Refusal → Question
asks b e = record { passes = b; refusal = e }

-- the first no
abbrev pub first_refusal : List Question → Option Refusal
first_refusal [] = None
first_refusal (q ∷ qs) = cond q.passes (first_refusal qs) (Some q.refusal)
