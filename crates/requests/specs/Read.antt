-- What the functions that read a line answer. Assumes nothing.
use Rattle.std.specs.Prelude.{◌≡◌, ℕ, List, [], ◌∷◌, length, Some, None, Option}
use Rattle.requests.specs.declared.form.Fields.{Fields}
use Rattle.requests.specs.declared.form.Request.{Request}
use Rattle.requests.specs.Form.{Asked, asking}

-- the five pieces of a line, where there are five
abbrev pub fields_in : Option Fields → List (List ℕ) → Type 0
fields_in None ps = length ps ≡ 5 → ⊥
fields_in (Some f) ps = ps ≡ f.algorithm.now ∷ f.hash.now ∷ f.t.now ∷ f.key.now ∷ f.message.now ∷ []

-- what a request asks for
abbrev pub asked : Request → Asked
asked q = asking q.algorithm q.hash q.t q.key.now q.message.now
