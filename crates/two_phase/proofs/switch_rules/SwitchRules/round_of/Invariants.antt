use Rattle.std.proofs.Common.{◌≡◌, List, map}
use Rattle.std.specs.Prelude.{◌==◌, filter, flat_map}
use Rattle.net_base.specs.declared.ids.SwitchId.{SwitchId}
use Rattle.flow_rules.specs.declared.rules.Rule.{Rule}
use Rattle.two_phase.specs.TwoPhasePlan.{in_key_order}
use Rattle.two_phase.specs.SwitchRules.{AreOrdered, change_by}
use Rattle.two_phase.proofs.SwitchLaws.{first_switches}
use Rattle.two_phase.proofs.switch_rules.SwitchRules.round_of.Given as goal

abbrev pub invariant-loop-number : goal.invariant-loop-number
invariant-loop-number l =
    (rules : SwitchId → List Rule) → AreOrdered l.net rules l.self
    → l.round.items ≡ flat_map (λ s. map (change_by l.step s) (in_key_order (filter (λ r. r.key.priority == l.priority) (rules s)))) (first_switches l.number)
