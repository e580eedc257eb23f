use Rattle.std.proofs.Common.{◌<◌, ◌++◌, ◌∷◌, [], get_or, subst, sym, ap, ◌∙◌, arith}
use Rattle.std.specs.List.{AllByRecursion}
use Rattle.std.proofs.lemmas.List.{take_more}
use Rattle.plan_format.proofs.OrderLaws.{earlier_below, one_below}
use Rattle.plan_format.proofs.evidence.set_of.Goals as goal
use Rattle.net_base.specs.Switches.{most_switches}

pub loop-switch-preserved : goal.loop-switch-preserved
loop-switch-preserved c =
    let xs = c.args.switches.now in
    let i = c.loop-switch.switch-index in
    let below = earlier_below xs i c.requires.ascending c.loop-switch-test.true in
    c.put.ensures.last (subst (λ l. AllByRecursion (λ t. t < get_or xs i 0) l) (sym c.loop-switch.invariant) below)
    ∙ ap (λ l. l ++ get_or xs i 0 ∷ []) c.loop-switch.invariant
    ∙ sym (take_more xs i 0 c.loop-switch-test.true)

pub put-requires : goal.put-requires
put-requires c = one_below most_switches c.args.switches.now c.loop-switch.switch-index c.requires.few c.loop-switch-test.true

pub overflow_cast-switch : goal.overflow_cast-switch
overflow_cast-switch c =
    let low = one_below most_switches c.args.switches.now c.loop-switch.switch-index c.requires.few c.loop-switch-test.true in
    omega (arith, low)
