use Rattle.std.proofs.Common.{◌≡◌, ℕ, ◌*◌, ◌/◌, ◌%◌, List, length, take, drop, replicate, refl, ap, ◌∙◌}
use Rattle.hash.specs.Meaning.{none, chained}
use Rattle.hash.specs.Meter.{after}
use Rattle.hash.proofs.Gather.{empty_blocks, empty_held}
use Rattle.hash.proofs.Join.{ends, ends_turns}
use Rattle.hash.proofs.hash_chain.Goals as goal

pub returns : goal.returns
returns g c =
    let m = g.H.Hash.meaning in
    let next = g.H.Hash.next in
    let bytes : List ℕ = c.args.message.now in
    let n = length bytes in
    let start : c.absorb.new.chain ≡ chained m m.first none bytes (n / 64) =
    c.absorb.ensures.chain ∙ ap (λ (i : ℕ). chained m c.first_chain-chain.result none bytes i) (empty_blocks bytes) ∙ ap (λ (x : List ℕ). chained m x none bytes (n / 64)) c.first_chain-chain.ensures in
    let left : take (n % 64) c.absorb.new.held ≡ drop (64 * (n / 64)) bytes = ap (take (n % 64)) c.absorb.ensures.held ∙ empty_held (replicate 64 0) bytes refl in
    record {
      chain = ends m m.first none bytes c.absorb.new.chain (take (n % 64) c.absorb.new.held) c.chain_end.new.chain start left c.chain_end.ensures.chain;
      meter = ends_turns next c.args.hash.now c.absorb.new.hash c.chain_end.new.hash n (c.absorb.ensures.meter ∙ ap (after next c.args.hash.now) (empty_blocks bytes)) c.chain_end.ensures.meter;
    }
