use Rattle.std.proofs.Common.{◌≡◌, ◌<◌, List, length, map, take}
use Rattle.std.specs.List.{AllByRecursion}
use Rattle.flow_rules.specs.Tables.{IsTable}
use Rattle.flow_rules.specs.declared.rules.Rule.{Rule}
use Rattle.two_phase.specs.TwoPhasePlan.{in_key_order}
use Rattle.two_phase.specs.DeepRules.{deep_rule}
use Rattle.two_phase.proofs.deep_rules.deepened.Given as goal

abbrev pub invariant-loop-rule : goal.invariant-loop-rule
invariant-loop-rule l =
    ((all : List Rule) → IsTable all → l.rules ≡ in_key_order all → l.deep.items ≡ map (deep_rule all) (take l.rule-index l.rules)) × AllByRecursion (λ d. d.depth < l.rule-index) l.deep.items
    × (length l.deep.items ≡ l.rule-index)
