-- From what a call told to the act of the call as a value. Assumes nothing.
use Rattle.std.proofs.Common.{◌≡◌, ℕ, List, replicate, Ok, Err, Result, sym, refl, ap, ◌∙◌, subst}
use Rattle.refusals.specs.declared.Refusal.{Refusal}
use Rattle.mac.specs.Face.{Face}
use Rattle.node.specs.declared.Node.{Node}
use Rattle.node.specs.declared.replay.Call.{Call}
use Rattle.node.specs.Model.{Model, After}
use Rattle.node.specs.Calls.{written}
use Rattle.node.specs.Stands.{Told}
use Rattle.node.specs.Replies.{Answer}
use Rattle.node.specs.Replaying.{act, placed, performed, Acted}

-- a node that told what its model tells, the result given as an answer
pub acted : {H A X : Type 0} (next : H → H) (f : Face) (m : Model) (n0 n1 : Node H A) (of : Result X Refusal → Answer) (c c' : Call) (a : Answer) (r : Result X Refusal) (x : After X) →
    c ≡ c' → a ≡ of r → Told next f n0 n1 r x → performed f m c' ≡ act of x → Acted next f n0 n1 a (performed f m c)
acted next f m n0 n1 of c c' a r x qc qa told is =
    subst (Acted next f n0 n1 a) (sym (ap (performed f m) qc ∙ is))
    (record { answer = qa ∙ ap of told.answer; model = told.model; meter = told.meter })

-- the same of a result with bytes that were written first into a place of zeros
pub acted_in : {H A X : Type 0} (next : H → H) (f : Face) (m : Model) (n0 n1 : Node H A) (of : List ℕ → Result X Refusal → Answer) → ((p p' : List ℕ) (e : Refusal) → of p (Err e) ≡ of p' (Err e)) →
    (c c' : Call) (a : Answer) (r : Result X Refusal) (x : After X) (n : ℕ) (bytes place : List ℕ) →
    c ≡ c' → a ≡ of place r → place ≡ written f m r bytes (replicate n 0) → Told next f n0 n1 r x → performed f m c' ≡ act (of (placed n bytes)) x → Acted next f n0 n1 a (performed f m c)
acted_in {H} {A} {X} next f m n0 n1 of errs c c' a r x n bytes place qc qa is told same = acted next f m n0 n1 (of (placed n bytes)) c c' a r x qc (qa ∙ ap (λ p. of p r) is ∙ first r) told same
  where
    first : (r : Result X Refusal) → of (written f m r bytes (replicate n 0)) r ≡ of (placed n bytes) r
    first (Ok y) = refl
    first (Err e) = errs _ _ e
