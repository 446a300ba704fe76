use Rattle.std.proofs.Common.{◌≡◌, take, refl, arith}
use Rattle.std.proofs.lemmas.List.{take_all}
use Rattle.hash.specs.Rounds.{steps}
use Rattle.hash.specs.Windows.{Before}
use Rattle.sha256.specs.Round.{one256, schedule}
use Rattle.sha256.specs.Groups.{first}
use Rattle.sha256.proofs.steps.all_steps.Goals as goal

pub returns : goal.returns
unfolding steps
returns c =
    let b = c.args.block.now in
    let h = c.args.chain.now in
    let whole : take 8 h ≡ h = take_all 8 h (omega arith) in
    let window = c.block_words-window in
    let s0 : Before one256 h (schedule b) window.result h 0 = record { held = first b window.result window.ensures; done = refl } in
    let s8 = c.eight_steps.ensures h b s0 in
    let s16 = c.eight_steps-2.ensures h b s8 in
    let s24 = c.eight_steps-3.ensures h b s16 in
    let s32 = c.eight_steps-4.ensures h b s24 in
    let s40 = c.eight_steps-5.ensures h b s32 in
    let s48 = c.eight_steps-6.ensures h b s40 in
    let s56 = c.eight_steps-7.ensures h b s48 in
    let s64 = c.eight_steps-8.ensures h b s56 in
    rw whole s64.done
