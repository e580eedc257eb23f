use Rattle.std.proofs.Common.{take, get_or, sym, subst}
use Rattle.std.proofs.lemmas.List.{take_more, take_all}
use Rattle.net_base.specs.declared.ids.SwitchId.{SwitchId}
use Rattle.net_base.proofs.SetLaws.{IsSetOf, set_none, set_more}
use Rattle.net_base.proofs.switch_set.SwitchSet.of.Goals as goal

pub loop-switch-init : goal.loop-switch-init
loop-switch-init c = set_none c.none-set.result c.none-set.ensures

pub put-requires : goal.put-requires
put-requires c = c.requires c.loop-switch.switch-index (record { 0 = 0 }) c.loop-switch-test.true

pub loop-switch-preserved : goal.loop-switch-preserved
loop-switch-preserved c =
    let list = c.args.switches.now in
    let i = c.loop-switch.switch-index in
    let none : SwitchId = record { 0 = 0 } in
    subst (IsSetOf c.put.new.self) (sym (take_more list i none c.loop-switch-test.true))
    (set_more c.loop-switch.set c.put.new.self (take i list) (get_or list i none) c.put.ensures.there c.put.ensures.others c.loop-switch.invariant)

pub returns : goal.returns
returns c = subst (IsSetOf c.loop-switch.set) (take_all c.loop-switch.switch-index c.args.switches.now c.loop-switch-test.false) c.loop-switch.invariant
