use Rattle.std.proofs.Common.{◌∙◌, ap, not, arith}
use Rattle.acyclic_numbering.specs.Heights.{IsLower}
use Rattle.acyclic_numbering.specs.declared.Edge.{Edge}
use Rattle.check_reasons.specs.Least.{lesser}
use Rattle.ordered_check.proofs.LeastLaws.{least_more, told_not, edge_at}
use Rattle.ordered_check.proofs.least.least_not_lower.Goals as goal

pub loop-step-preserved : goal.loop-step-preserved
loop-step-preserved c =
    let none : Edge = record { from = record { 0 = 0 }; to = record { 0 = 0 } } in
    least_more (λ (e : Edge). ¬ IsLower c.args.numbering.now e.from e.to) (λ (e : Edge). e.from) c.args.steps.now c.loop-step.step-index none (not c.lowers-up.result) c.loop-step.least c.lesser-least.result
    c.loop-step-test.true (told_not c.lowers-up.result c.lowers-up.ensures) (c.lesser-least.ensures ∙ ap (lesser c.loop-step.least) c.then_some.ensures) c.loop-step.invariant

pub returns : goal.returns
returns c =
    let past = c.loop-step-test.false in
    edge_at (λ (e : Edge). ¬ IsLower c.args.numbering.now e.from e.to) c.args.steps.now c.loop-step.step-index c.loop-step.least (omega arith) c.loop-step.invariant
