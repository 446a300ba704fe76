use Rattle.std.proofs.Common.{◌≡◌, ℕ, ◌/◌, ◌≤◌, List, length, drop, ap, ◌∙◌, mul_comm, arith, rules}
use Rattle.hash.specs.Held.{rest_of, filled}
use Rattle.hash.proofs.Gather.{from_start, rest_sized}
use Rattle.hash.proofs.absorb_whole.Goals as goal

pub returns-clause-held : goal.returns-clause-held
returns-clause-held g c =
    let piece = c.args.piece.now in
    let held = c.args.held.now in
    let size : length held ≡ 64 = search rules in
    let rest : List ℕ = rest_of piece in
    let short : length rest ≤ length held = omega (arith, rest_sized piece) in
    c.fill_at.ensures.held ∙ ap (filled held 0) (c.as_chunks.ensures.back ∙ ap (λ (i : ℕ). drop i piece) (mul_comm (length piece / 64) 64)) ∙ from_start held rest short
