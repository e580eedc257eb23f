-- Rules whose numbers a plan file and a message have room for.
use Rattle.std.specs.Prelude.{◌≤◌, List}
use Rattle.std.specs.List.{AllByRecursion}
use Rattle.net_base.specs.Blocks.{IsBlock}
use Rattle.flow_rules.specs.declared.rules.Rule.{Rule}
use Rattle.update_model.specs.Ranges.{IsPlanPort, IsPlanVlan, IsPlanAction}

-- a rule whose numbers are those that a change may have
pub record IsPlanRule (r : Rule) : Type 0 where
  pub priority : 1 ≤ r.key.priority
  pub priority_most : r.key.priority ≤ 65535
  pub port : IsPlanPort r.key.pattern.in_port
  pub vlan : IsPlanVlan r.key.pattern.vlan
  pub dst : IsBlock r.key.pattern.dst
  pub action : IsPlanAction r.action

-- tables of such rules
abbrev pub ArePlanTables : List (List Rule) → Type 0
ArePlanTables tables = AllByRecursion (AllByRecursion IsPlanRule) tables
