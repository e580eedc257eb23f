use Rattle.std.proofs.Common.{◌≡◌, List, length, map}
use Rattle.net_base.specs.declared.ids.SwitchId.{SwitchId}
use Rattle.flow_rules.specs.declared.rules.Rule.{Rule}
use Rattle.two_phase.specs.SwitchRules.{AreOrdered}
use Rattle.two_phase.specs.DeepRules.{deep_rules}
use Rattle.two_phase.proofs.SwitchLaws.{first_switches}
use Rattle.two_phase.proofs.deep_rules.deepen.Given as goal

abbrev pub invariant-loop-number : goal.invariant-loop-number
invariant-loop-number l =
    ((given : SwitchId → List Rule) → AreOrdered l.net given l.rules → l.all ≡ map (λ s. deep_rules (given s)) (first_switches l.number)) × (length l.all ≡ l.number)
