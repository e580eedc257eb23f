use Rattle.std.proofs.Common.{get_or, arith}
use Rattle.net_base.proofs.MemberLaws.{each_at}
use Rattle.acyclic_numbering.specs.Heights.{IsLower}
use Rattle.acyclic_numbering.specs.declared.Edge.{Edge}
use Rattle.certificates.proofs.Chains.{all_from, refused, granted}
use Rattle.net_base.proofs.ItemLaws.{in_at}
use Rattle.evidence_store.proofs.safe.all_lower.Goals as goal

pub returns-then-not-lowers : goal.returns-then-not-lowers
returns-then-not-lowers c =
    let none : Edge = record { from = record { 0 = 0 }; to = record { 0 = 0 } } in
    let step = get_or c.args.steps.now c.loop-step.step-index none in
    refused c.lowers.result c.if-not-lowers.true c.lowers.ensures (λ falls. falls step.from step.to (in_at c.args.steps.now c.loop-step.step-index none c.loop-step-test.true))

pub returns : goal.returns
returns c =
    let lower = λ (e : Edge). IsLower c.args.numbering.now e.from e.to in
    let past = c.loop-step-test.false in
    let all = all_from lower c.args.steps.now (λ k d lt. c.loop-step.invariant k d (omega arith)) in
    granted (λ s t i. each_at lower c.args.steps.now (record { from = s; to = t }) all i)
