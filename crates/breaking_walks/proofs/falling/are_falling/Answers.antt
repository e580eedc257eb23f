use Rattle.std.proofs.Common.{get_or, arith}
use Rattle.net_base.proofs.MemberLaws.{each_at}
use Rattle.acyclic_numbering.specs.Heights.{IsLower}
use Rattle.acyclic_numbering.specs.declared.Edge.{Edge}
use Rattle.certificates.proofs.Chains.{all_from, refused, granted}
use Rattle.net_base.proofs.ItemLaws.{in_at}
use Rattle.breaking_walks.proofs.falling.are_falling.Goals as goal

pub returns-then-not-is_falling : goal.returns-then-not-is_falling
returns-then-not-is_falling c =
    let none : Edge = record { from = record { 0 = 0 }; to = record { 0 = 0 } } in
    let step = get_or c.args.edges.now c.loop-edge.edge-index none in
    refused c.is_falling.result c.if-not-is_falling.true c.is_falling.ensures (λ falls. falls step.from step.to (in_at c.args.edges.now c.loop-edge.edge-index none c.loop-edge-test.true))

pub returns : goal.returns
returns c =
    let lower = λ (e : Edge). IsLower c.args.numbers.now e.from e.to in
    let past = c.loop-edge-test.false in
    let all = all_from lower c.args.edges.now (λ k d lt. c.loop-edge.invariant k d (omega arith)) in
    granted (λ s t i. each_at lower c.args.edges.now (record { from = s; to = t }) all i)
