use Rattle.std.proofs.Common.{◌∙◌, ap, arith}
use Rattle.net_base.specs.Members.{IsIn}
use Rattle.net_base.specs.declared.ids.SwitchId.{SwitchId}
use Rattle.waypoint_evidence.specs.Befores.{Holds}
use Rattle.check_reasons.specs.Least.{lesser}
use Rattle.ordered_check.proofs.LeastLaws.{least_more, switch_at}
use Rattle.ordered_check.proofs.least.least_held.Goals as goal

pub loop-s-preserved : goal.loop-s-preserved
loop-s-preserved c =
    least_more (λ (s : SwitchId). Holds c.args.set.now s) (λ (s : SwitchId). s) c.args.switches.now c.loop-s.s-index (record { 0 = 0 }) c.holds.result c.loop-s.least c.lesser-least.result
    c.loop-s-test.true c.holds.ensures (c.lesser-least.ensures ∙ ap (lesser c.loop-s.least) c.then_some.ensures) c.loop-s.invariant

pub returns : goal.returns
returns c =
    let past = c.loop-s-test.false in
    switch_at (λ (s : SwitchId). Holds c.args.set.now s) (λ (s : SwitchId). Holds c.args.set.now s × IsIn s c.args.switches.now) c.args.switches.now c.loop-s.s-index c.loop-s.least (omega arith)
    (λ s h i. (h, i)) (λ s w. w) c.loop-s.invariant
