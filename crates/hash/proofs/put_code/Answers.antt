use Rattle.std.proofs.Common.{◌≡◌, ℕ, ◌*◌, ◌++◌, List, length, take, drop, ap, ◌∙◌, ap₂, rules}
use Rattle.hash.specs.Meaning.{bytes_of, code}
use Rattle.hash.proofs.Close.{code_front, code_sized}
use Rattle.hash.proofs.put_code.Goals as goal

pub returns : goal.returns
returns g c =
    let m = g.H.Hash.meaning in
    let chain : List ℕ = c.args.chain.now in
    let shape = c.shape_of-words in
    let long : length chain ≡ 8 = search rules in
    let size : 4 * shape.result.words ≡ 4 * m.words = ap (λ (n : ℕ). 4 * n) shape.ensures.0 in
    let front : c.copy_from_slice.new.self ≡ code m chain =
    c.copy_from_slice.ensures.after
    ∙ code_front shape.result.order shape.result.words chain c.as_flattened.result.now c.chain_to_bytes-code.result c.chain_to_bytes-code.ensures c.as_flattened.ensures.value
    ∙ ap₂ (λ o (n : ℕ). bytes_of o (take n chain)) shape.ensures.2 shape.ensures.0 in
    record {
      bytes = ap₂ (λ (bs : List ℕ) (n : ℕ). bs ++ drop n c.args.out.now) front size;
      size = code_sized m.order m.words chain long g.met.H.Hash.fits.1;
    }
