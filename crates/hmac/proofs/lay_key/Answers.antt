use Rattle.std.proofs.Common.{◌≡◌, ℕ, min, length, take, replicate, ap, ◌∙◌, rules}
use native.Mathlib.Nat.{sub-zero}
use Rattle.hmac.proofs.Keys.{laid}
use Rattle.hmac.proofs.lay_key.Goals as goal

pub returns : goal.returns
returns c =
    let key = c.args.key.now in
    let n = c.min-n.result in
    let size : length c.args.block.now ≡ 64 = search rules in
    let isN : n ≡ min (length key) 64 = search rules in
    let isW : c.copy_from_slice.new.self ≡ take n key = c.copy_from_slice.ensures.after ∙ ap (λ (i : ℕ). take i key) (sub-zero n) in
    laid key c.copy_from_slice.new.self c.fill.new.self n isN isW (c.fill.ensures.after (λ y e. e) ∙ ap (λ (i : ℕ). replicate i 0) size)
