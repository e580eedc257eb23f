use Rattle.std.proofs.Common.{true, refl, arith}
use Rattle.net_base.specs.Members.{IsIn}
use Rattle.net_base.specs.declared.ids.SwitchId.{SwitchId}
use Rattle.ordered_check.proofs.LeastLaws.{least_more, switch_at}
use Rattle.ordered_check.proofs.least.least_of.Goals as goal

pub loop-s-preserved : goal.loop-s-preserved
loop-s-preserved c =
    least_more (λ (s : SwitchId). Unit {0}) (λ (s : SwitchId). s) c.args.switches.now c.loop-s.s-index (record { 0 = 0 }) true c.loop-s.least c.lesser-least.result
    c.loop-s-test.true (λ e. tt, λ t. refl) c.lesser-least.ensures c.loop-s.invariant

pub returns : goal.returns
returns c =
    let past = c.loop-s-test.false in
    switch_at (λ (s : SwitchId). Unit {0}) (λ (s : SwitchId). IsIn s c.args.switches.now) c.args.switches.now c.loop-s.s-index c.loop-s.least (omega arith)
    (λ s h i. i) (λ s i. (tt, i)) c.loop-s.invariant
