use Rattle.std.proofs.Common.{◌≡◌, ℕ, ◌-◌, ◌≤◌, length, sym, ap, ◌∙◌, subst, arith, rules}
use Rattle.hash.specs.Meaning.{chained}
use Rattle.hash.specs.Held.{joined, whole_blocks, kept_of}
use Rattle.hash.specs.Meter.{after}
use Rattle.hash.proofs.Gather.{short_held, full_chain, full_held, full_meter, empty_blocks, empty_chain, empty_kept}
use Rattle.hash.proofs.absorb_at.Goals as goal

pub returns-then-at-eq0 : goal.returns-then-at-eq0
returns-then-at-eq0 g c =
    let m = g.H.Hash.meaning in
    let held = c.args.held.now in
    let piece = c.args.piece.now in
    let w = c.absorb_whole in
    let zero = sym c.if-at-eq0.true in
    record {
      chain = subst (λ (a : ℕ). w.new.chain ≡ chained m c.args.chain.now c.args.added.now (joined held a piece) (whole_blocks a piece)) zero (empty_chain m c.args.chain.now c.args.added.now held piece w.new.chain w.ensures.chain);
      held = subst (λ (a : ℕ). w.new.held ≡ kept_of held a piece) zero (empty_kept m c.args.chain.now c.args.added.now held piece w.new.held w.ensures.held);
      meter = subst (λ (a : ℕ). w.new.hash ≡ after g.H.Hash.next c.args.hash.now (whole_blocks a piece)) zero (w.ensures.meter ∙ ap (after g.H.Hash.next c.args.hash.now) (sym (empty_blocks piece)));
    }

pub returns-then-piece-at : goal.returns-then-piece-at
returns-then-piece-at g c =
    let held = c.args.held.now in
    let piece = c.args.piece.now in
    let at = c.args.at in
    let h = c.args.hash.now in
    let size : length held ≡ 64 = search rules in
    let none : whole_blocks at piece ≡ 0 = omega arith in
    record {
      chain = sym (ap (λ (i : ℕ). chained g.H.Hash.meaning c.args.chain.now c.args.added.now (joined held at piece) i) none);
      held = short_held held at piece size c.requires c.fill_at-tail.new.held c.if-at-eq0.false c.fill_at-tail.ensures.held (omega arith);
      meter = sym (ap (after g.H.Hash.next h) none);
    }

pub returns : goal.returns
returns g c =
    let m = g.H.Hash.meaning in
    let held = c.args.held.now in
    let piece = c.args.piece.now in
    let at = c.args.at in
    let size : length held ≡ 64 = search rules in
    let le : 64 - at ≤ length piece = omega arith in
    let tail = c.fill_at-tail.result.now in
    let isF = c.fill_at-tail.ensures.held in
    let isT = c.fill_at-tail.ensures.tail in
    record {
      chain = full_chain held at piece size c.requires le m c.args.chain.now c.args.added.now c.fill_at-tail.new.held tail c.round.new.chain c.absorb_whole-2.new.chain
          isF isT c.round.ensures.chain c.absorb_whole-2.ensures.chain;
      held = full_held held at piece size c.requires le c.fill_at-tail.new.held tail c.absorb_whole-2.new.held c.if-at-eq0.false isF isT c.absorb_whole-2.ensures.held;
      meter = full_meter held at piece size c.requires le g.H.Hash.next c.args.hash.now c.round.new.self c.absorb_whole-2.new.hash tail isT c.round.ensures.meter c.absorb_whole-2.ensures.meter;
    }
