use Rattle.std.proofs.Common.{◌≡◌, ◌+◌, ◌^◌, ◌<◌, None, sym, ap, ◌∙◌, subst}
use Rattle.node.specs.declared.desk.Fields.{Fields}
use Rattle.node.specs.Asking.{is_order}
use Rattle.node.specs.Orders.{desk_ended}
use Rattle.node.proofs.Steps.{obeys_refused}
use Rattle.node.proofs.Ends.{ends_other, ends}
use Rattle.node.proofs.Node.end_order.Goals as goal

pub returns-then-not-holds-clause-obeys : goal.returns-then-not-holds-clause-obeys
returns-then-not-holds-clause-obeys g c =
    let n = c.args.self.now in
    let made : n.refusal ≡ None = cc in
    let held = sym (c.holds.ensures ∙ ap (λ (o : Fields). is_order o n.desk.hand) c.fields.ensures) in
    obeys_refused g.H.Hash.next g.A.Algorithm.face n _ _ (λ m st. ends_other g.H.Hash.next g.A.Algorithm.face n m st c.args.end c.args.order.fields made _ held c.if-not-holds.true)

pub returns-clause-obeys : goal.returns-clause-obeys
returns-clause-obeys g c = λ m st.
    let n = c.args.self.now in
    let made : n.refusal ≡ None = cc in
    let held = sym (c.holds.ensures ∙ ap (λ (o : Fields). is_order o n.desk.hand) c.fields.ensures) in
    let written = subst (λ (o : Fields). n.desk.carried + 1 < 2 ^ 64 → n.desk.declined + 1 < 2 ^ 64 → c.end.new.self ≡ desk_ended n.desk o c.args.end) c.into_fields.ensures c.end.ensures in
    ends g.H.Hash.next g.A.Algorithm.face n m st c.args.end c.args.order.fields made _ held c.end.new.self c.if-not-holds.false written
