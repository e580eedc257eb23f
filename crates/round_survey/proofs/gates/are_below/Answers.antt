use Rattle.std.proofs.Common.{◌≡◌, ◌+◌, ◌∷◌, drop, get_or, sym, ◌∙◌, ap, subst, add-one}
use Rattle.std.proofs.Math.Seq.{drop-cons}
use Rattle.net_base.specs.declared.ids.SwitchId.{SwitchId}
use Rattle.round_survey.specs.Gates.{AreBelow}
use Rattle.round_survey.proofs.GateLaws.{drop_past}
use Rattle.round_survey.proofs.gates.are_below.Goals as goal

pub loop-switch-init : goal.loop-switch-init
loop-switch-init c h = h

pub loop-switch-preserved : goal.loop-switch-preserved
loop-switch-preserved c rest =
    let gates = c.args.gates.now in
    let chain = c.args.chain.now in
    let i = c.loop-switch.switch-index in
    let none : SwitchId = record { 0 = 0 } in
    let switch : SwitchId = get_or chain i none in
    let split : drop i chain ≡ switch ∷ drop (i + 1) chain = drop-cons chain i none c.loop-switch-test.true ∙ ap (λ n. switch ∷ drop n chain) (sym (add-one i)) in
    c.loop-switch.invariant (subst (AreBelow gates.numbering gates.set c.loop-switch.last) (sym split)
    (c.is_next.ensures.gate c.if-not-is_next.false, c.is_next.ensures.lower c.if-not-is_next.false, rest))

pub returns : goal.returns
returns c = λ _.
    let gates = c.args.gates.now in
    let chain = c.args.chain.now in
    let i = c.loop-switch.switch-index in
    c.loop-switch.invariant (subst (AreBelow gates.numbering gates.set c.loop-switch.last) (sym (drop_past chain i c.loop-switch-test.false)) tt)
