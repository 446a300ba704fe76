use Rattle.std.proofs.Common.{◌≡◌, ℕ, length, take, ap, ◌∙◌, arith, length-append, length-drop, length-take, rules}
use native.Mathlib.Nat.{sub-zero}
use Rattle.mdxmac.proofs.Brief.{message_put}
use Rattle.mdxmac.proofs.lay.put_message.Goals as goal

pub returns : goal.returns
returns c =
    let n = c.args.n in
    let held = c.args.held.now in
    let size : length c.args.block.now ≡ 64 = search rules in
    let sizeH : length held ≡ 64 = search rules in
    let le = c.requires in
    let isW : c.copy_from_slice.new.self ≡ take n held = c.copy_from_slice.ensures.after ∙ ap (λ (i : ℕ). take i held) (sub-zero n) in
    let lm : length (take n held) ≡ n = simp length-take (omega arith) in
    let lw : length c.copy_from_slice.new.self ≡ n = ap length isW ∙ lm in
    message_put c.args.block.now (take n held) c.copy_from_slice.new.self c.fill.new.self n _ size le lm isW (c.fill.ensures.after (λ y e. e)) (simp (length-take, length-drop, length-append) (omega arith))
