use Rattle.std.proofs.Common.{◌<◌, ◌≤◌}
use Rattle.net_base.specs.declared.ids.SwitchId.{SwitchId}
use Rattle.topology.specs.Networks.{capacity_of}
use Rattle.flow_rules.specs.Tables.{rules_of_all}
use Rattle.two_phase.specs.TwoPhasePlan.{two_phase_need}
use Rattle.two_phase.proofs.planning.check_room.Given as goal

abbrev pub invariant-loop-number : goal.invariant-loop-number
invariant-loop-number l = (t : SwitchId) → t.0 < l.number → two_phase_need l.net (rules_of_all l.old) (rules_of_all l.new) t ≤ capacity_of l.net t
