use Rattle.std.proofs.Common.{◌≡◌, List, map}
use Rattle.std.specs.Prelude.{◌==◌, filter, flat_map}
use Rattle.net_base.specs.declared.ids.SwitchId.{SwitchId}
use Rattle.flow_rules.specs.declared.rules.Rule.{Rule}
use Rattle.two_phase.specs.TwoPhasePlan.{in_key_order}
use Rattle.two_phase.specs.SwitchRules.{change_by}
use Rattle.two_phase.specs.Depths.{depth_of}
use Rattle.two_phase.specs.DeepRules.{AreDeep}
use Rattle.two_phase.proofs.SwitchLaws.{first_switches}
use Rattle.two_phase.proofs.deep_rules.DeepRules.round_at.Given as goal

abbrev pub invariant-loop-number : goal.invariant-loop-number
invariant-loop-number l =
    (rules : SwitchId → List Rule) → AreDeep l.net rules l.self
    → l.round.items ≡ flat_map (λ s. map (change_by l.step s) (in_key_order (filter (λ r. depth_of (rules s) r == l.depth) (rules s)))) (first_switches l.number)
