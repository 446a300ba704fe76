use Rattle.std.proofs.Common.{rules, of_calls, ◌≡◌, ℕ, ◌/◌, List, [], length, get_or, refl, ap, ◌∙◌}
use Rattle.std.specs.Simd.{first_chunks}
use Rattle.hash.specs.Words.{word}
use Rattle.hash.proofs.Load.{words_all, word_in}
use Rattle.hash.proofs.Made.{made}
use Rattle.hash.proofs.load_words.Goals as goal

pub returns : goal.returns
returns c =
    let block : List ℕ = c.args.block.now in
    let size : length block ≡ 64 = search rules in
    let cut : c.as_chunks.result.0.now ≡ first_chunks 4 16 block = c.as_chunks.ensures.front ∙ ap (λ (n : ℕ). first_chunks 4 (n / 4) block) size in
    let each = made c.from_fn.ensures.items (word c.args.order block) 0
    (λ i r q lt k. (word_in c.args.order block (get_or c.as_chunks.result.0.now i []) [] c.as_chunks.result.0.now i r cut lt refl (search (rules, of_calls)), search (rules, of_calls))) in
    words_all c.args.order block c.from_fn.result 16 c.from_fn.ensures.items.long each
