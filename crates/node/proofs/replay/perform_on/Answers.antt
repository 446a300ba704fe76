use Rattle.std.proofs.Common.{◌≡◌, refl, rules}
use Rattle.node.specs.Replies.{tag_of, frame_of}
use Rattle.node.specs.Calls.{tag_at, sealed_frame}
use Rattle.node.proofs.Acts.{acted_in}
use Rattle.node.proofs.replay.perform_on.Goals as goal

pub returns-in-Finish-clause-performs : goal.returns-in-Finish-clause-performs
returns-in-Finish-clause-performs g c = λ m st.
    let f = g.A.Algorithm.face in
    let answer : c.map-in-Finish.result ≡ tag_of c.finish_at.new.out c.finish_at.result = search rules in
    acted_in g.H.Hash.next f m _ _ tag_of (λ p p' e. refl) _ _ _ _ _ 32 (tag_at f m c.in-Finish.lane) _ c.in-Finish.is answer (c.finish_at.ensures.place m st) (c.finish_at.ensures.obeys m st) refl

pub returns-in-Seal-clause-performs : goal.returns-in-Seal-clause-performs
returns-in-Seal-clause-performs g c = λ m st.
    let f = g.A.Algorithm.face in
    let answer : c.map-in-Seal.result ≡ frame_of c.seal_at.new.out c.seal_at.result = search rules in
    acted_in g.H.Hash.next f m _ _ frame_of (λ p p' e. refl) _ _ _ _ _ 295 (sealed_frame f m c.in-Seal.slot c.in-Seal.kind c.in-Seal.body.now c.in-Seal.address) _ c.in-Seal.is answer (c.seal_at.ensures.place m st) (c.seal_at.ensures.obeys m st) refl
