use Rattle.std.proofs.Common.{get_or, subst}
use Rattle.net_base.specs.declared.ids.SwitchId.{SwitchId}
use Rattle.acyclic_numbering.specs.Heights.{IsEdge}
use Rattle.acyclic_numbering.specs.declared.Edge.{Edge}
use Rattle.net_base.proofs.NameLaws.{same_switch}
use Rattle.net_base.proofs.ItemLaws.{in_at}
use Rattle.acyclic_numbering.proofs.open_successor.Goals as goal

pub returns-then-pending-edge : goal.returns-then-pending-edge
returns-then-pending-edge c =
    let none : Edge = record { from = record { 0 = 0 }; to = record { 0 = 0 } } in
    let e = get_or c.args.edges.now c.loop-edge.edge-index none in
    (subst (λ (x : SwitchId). IsEdge c.args.edges.now x e.to) (same_switch e.from c.args.s c.if-edge-s.true) (in_at c.args.edges.now c.loop-edge.edge-index none c.loop-edge-test.true), c.if-pending-edge.true)
