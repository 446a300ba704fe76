use Rattle.std.proofs.Common.{refl}
use Rattle.hash.specs.Rounds.{steps}
use Rattle.hash.specs.Windows.{Before}
use Rattle.sha_1.specs.Round.{one1, schedule}
use Rattle.sha_1.specs.Groups.{first}
use Rattle.sha_1.proofs.steps.all_steps.Goals as goal

pub returns : goal.returns
unfolding steps
returns g c =
    let b = c.args.block.now in
    let h = c.args.chain in
    let window = c.block_words-window in
    let s0 : Before (one1 c.args.keys.now) h (schedule b) window.result h 0 = record { held = first b window.result window.ensures; done = refl } in
    let s5 = c.five_steps.ensures h b s0 in
    let s10 = c.five_steps-2.ensures h b s5 in
    let s15 = c.five_steps-3.ensures h b s10 in
    let s20 = c.five_steps-4.ensures h b s15 in
    let s25 = c.five_steps-5.ensures h b s20 in
    let s30 = c.five_steps-6.ensures h b s25 in
    let s35 = c.five_steps-7.ensures h b s30 in
    let s40 = c.five_steps-8.ensures h b s35 in
    let s45 = c.five_steps-9.ensures h b s40 in
    let s50 = c.five_steps-10.ensures h b s45 in
    let s55 = c.five_steps-11.ensures h b s50 in
    let s60 = c.five_steps-12.ensures h b s55 in
    let s65 = c.five_steps-13.ensures h b s60 in
    let s70 = c.five_steps-14.ensures h b s65 in
    let s75 = c.five_steps-15.ensures h b s70 in
    let s80 = c.five_steps-16.ensures h b s75 in
    s80.done
