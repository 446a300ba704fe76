-- A tag or a frame in the first bytes of a place. Assumes nothing.
use Rattle.std.proofs.Common.{◌≡◌, ℕ, ◌+◌, ◌≤◌, List, ◌++◌, length, drop, Ok, Err, Result, sym, ap, ◌∙◌, append_assoc, arith, length-append}
use borrow.Rule.Slice.PartMut.{mid_of, post_of, put_same}
use Rattle.std.proofs.lemmas.List.{drop-append-le}
use Rattle.refusals.specs.declared.Refusal.{Refusal}
use Rattle.mac.specs.Face.{Face}
use Rattle.node.specs.Model.{Model}
use Rattle.node.specs.Calls.{written}

-- what was written into the first bytes of a place, as it stands in the whole
laid : {X : Type 0} (f : Face) (m : Model) (r : Result X Refusal) (bytes out0 out1 rest : List ℕ) → out1 ≡ written f m r bytes out0 → length out1 ≡ length out0 → out1 ++ rest ≡ written f m r bytes (out0 ++ rest)
laid f m (Ok x) bytes out0 out1 rest is long =
    let sum : length bytes + length (drop (length bytes) out0) ≡ length out0 = sym (length-append bytes (drop (length bytes) out0)) ∙ ap length (sym is) ∙ long in
    let le : length bytes ≤ length out0 = omega (arith, sum) in
    ap (λ o. o ++ rest) is
    ∙ append_assoc bytes (drop (length bytes) out0) rest
    ∙ ap (λ o. bytes ++ o) (sym (drop-append-le (length bytes) out0 rest le))
laid f m (Err e) bytes out0 out1 rest is long = ap (λ o. o ++ rest) is

-- the same of the first k bytes of a place
pub laid_first : {X : Type 0} (f : Face) (m : Model) (r : Result X Refusal) (bytes place out : List ℕ) (k : ℕ) → out ≡ written f m r bytes (mid_of 0 k place) → length out ≡ length (mid_of 0 k place) → out ++ post_of 0 k place ≡ written f m r bytes place
laid_first f m r bytes place out k is long = laid f m r bytes (mid_of 0 k place) out (post_of 0 k place) is long ∙ ap (written f m r bytes) (put_same 0 k place)
