-- The ingress rules of each switch with their depths.
use Rattle.std.specs.Prelude.{◌≡◌, List, map}
use Rattle.net_base.specs.declared.ids.SwitchId.{SwitchId}
use Rattle.topology.specs.Networks.{Network}
use Rattle.flow_rules.specs.Tables.{IsTable}
use Rattle.flow_rules.specs.declared.rules.Rule.{Rule}
use Rattle.two_phase.specs.TwoPhasePlan.{in_key_order, switches}
use Rattle.two_phase.specs.Depths.{depth_of}
use Rattle.two_phase.specs.declared.deep_rules.DeepRule.{DeepRule}

-- a rule with its depth among all
abbrev pub deep_rule : List Rule → Rule → DeepRule
deep_rule all r = record { rule = r; depth = depth_of all r }

-- the rules in key order with their depths
abbrev pub deep_rules : List Rule → List DeepRule
deep_rules all = map (deep_rule all) (in_key_order all)

-- one list for each switch: its rules, whose keys are distinct, in key order with their depths
pub record AreDeep (net : Network) (rules : SwitchId → List Rule) (lists : List (List DeepRule)) : Type 0 where
  pub tables : (s : SwitchId) → IsTable (rules s)
  pub are : lists ≡ map (λ s. deep_rules (rules s)) (switches net)
