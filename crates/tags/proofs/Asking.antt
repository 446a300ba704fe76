-- Questions that were all answered yes, and the rounds of a key and a message. Assumes nothing.
use Rattle.std.proofs.Common.{◌≡◌, ℕ, ◌+◌, ◌-◌, ◌^◌, ◌<◌, ◌≤◌, true, None, ap, ◌∙◌, arith}
use Rattle.hash.specs.Meter.{after, moved}
use Rattle.hash.proofs.Turns.{after_after}
use Rattle.mac.specs.Face.{Face, within}
use Rattle.refusals.specs.Questions.{first_refusal}
use Rattle.tags.specs.Asked.{questions}

pub record Open (f : Face) (t k n room : ℕ) : Type 0 where
  pub key : within f.row.key k ≡ true
  pub tag : within f.row.tag t ≡ true
  pub few : n ≤ f.row.message
  pub fits : t ≤ room

pub passed : (f : Face) (added t k n room : ℕ) → first_refusal (questions f added t k n room) ≡ None → Open f t k n room
passed f added t k n room e = record { key = grind arith; tag = grind arith; few = grind arith; fits = grind arith }

-- expand, add and end together
pub spent : {H : Type 0} (next : H → H) (h h1 h2 h3 : H) (setup held whole : ℕ) → held ≤ whole → h1 ≡ after next h setup → h2 ≡ after next h1 held → h3 ≡ after next h2 (whole - held) →
    h3 ≡ after next h (setup + whole)
spent next h h1 h2 h3 setup held whole le a b c =
    let number : setup + (held + (whole - held)) ≡ setup + whole = omega arith in
    c ∙ ap (λ x. after next x (whole - held)) b ∙ after_after next h1 held (whole - held) ∙ ap (λ x. after next x (held + (whole - held))) a
    ∙ after_after next h setup (held + (whole - held)) ∙ ap (after next h) number

pub read_out : (was now r : ℕ) → was ≡ 0 → r < 2 ^ 64 → now ≡ moved was r → now ≡ r
read_out was now r a b c = omega arith
