use Rattle.std.proofs.Common.{◌≤◌, inl, inr, subst, arith}
use Rattle.std.proofs.lemmas.Bool.{cases_lt}
use Rattle.net_base.specs.declared.ids.SwitchId.{SwitchId}
use Rattle.net_base.proofs.NameLaws.{same_switch}
use Rattle.topology.specs.Networks.{capacity_of}
use Rattle.flow_rules.specs.Tables.{rules_of_all}
use Rattle.two_phase.specs.TwoPhasePlan.{two_phase_need}
use Rattle.two_phase.proofs.planning.check_room.Goals as goal

pub loop-number-preserved : goal.loop-number-preserved
loop-number-preserved c t less =
    let n = c.loop-number.number in
    let here : SwitchId = record { 0 = n } in
    let fits : two_phase_need c.args.net.now (rules_of_all c.args.old.now) (rules_of_all c.args.new.now) here ≤ capacity_of c.args.net.now here =
    let need = c.need-need.ensures in
    let capacity = c.capacity-capacity.ensures.value in
    let wide = c.from.ensures in
    let false = c.if-need-from.false in
    omega arith
    in
    elim (cases_lt t.0 n) [
      | inl before ↦ c.loop-number.invariant t before
      | inr last ↦ subst (λ (s : SwitchId). two_phase_need c.args.net.now (rules_of_all c.args.old.now) (rules_of_all c.args.new.now) s ≤ capacity_of c.args.net.now s) (same_switch here t (omega arith)) fits
    ]
