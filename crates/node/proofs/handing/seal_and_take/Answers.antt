use Rattle.std.proofs.Common.{◌≡◌, ℕ, ◌<◌, take, Ok, Result, sym, refl, ap, ◌∙◌, subst, rules}
use Rattle.node.specs.Calls.{guarded, take_frame, sealed_frame, written}
use Rattle.node.specs.Model.{Model}
use Rattle.node.specs.Stands.{Stands, Told}
use Rattle.node.specs.Orders.{given}
use Rattle.node.specs.Handing.{Heard, Delivered}
use Rattle.node.proofs.Handed.{cut_out, handed}
use Rattle.node.proofs.handing.seal_and_take.Goals as goal

pub returns : goal.returns
returns g c =
    let f = g.A.Algorithm.face in
    let delivers : (m l : Model) → Stands g.H.Hash.next f c.args.cabinet.now m → Stands g.H.Hash.next f c.args.lamp.now l →
    Delivered g.H.Hash.next f m l c.args.cabinet.now c.seal.new.self c.args.lamp.now c.take.new.self c.args.slot c.args.kind c.args.body.now c.args.address c.args.frame.now c.seal.new.out (Ok c.take.result) =
    λ m l sm sl.
    let told = c.in_ok-sealed.ensures.obeys m sm in
    let S = sealed_frame f m c.args.slot c.args.kind c.args.body.now c.args.address in
    let isS = cut_out f m c.args.slot c.args.kind c.args.address c.in_ok-sealed.sealed c.args.body.now c.args.frame.now c.seal.new.out _ g.met.A.Algorithm.sized sm.fits told.answer (c.in_ok-sealed.ensures.written m sm) (ap (λ (i : ℕ). take i c.seal.new.out) c.min-end.ensures) in
    let took = subst (λ x. Told g.H.Hash.next f c.args.lamp.now c.take.new.self (given c.take.result) (guarded l (take_frame f l x))) isS (c.take.ensures.obeys l sl) in
    let low : c.args.address < 65536 = search rules in
    record {
      sealed = told.model;
      meter = told.meter;
      frame = subst (λ x. c.seal.new.out ≡ written f m x S c.args.frame.now) told.answer (c.in_ok-sealed.ensures.written m sm);
      heard = subst (λ x. Heard g.H.Hash.next f l c.args.lamp.now c.take.new.self S x (Ok c.take.result)) told.answer took;
      taken = λ t is ready. ap given (sym (ok_is is)) ∙ took.answer ∙ handed f m c.args.slot c.args.kind c.args.address c.in_ok-sealed.sealed c.args.body.now c.args.frame.now c.seal.new.out S g.met.A.Algorithm.sized sm.fits told.answer l low ready;
    } in
    record {
      handed = λ m l sm sl. (delivers m l sm sl).taken _ refl;
      delivered = delivers;
      numbered = search rules;
      zeroed = search rules;
    }
  where
    ok_is : {X Y : Type 0} {x y : X} → ◌≡◌ {A = Result X Y} (Ok x) (Ok y) → x ≡ y
    ok_is e = cc
