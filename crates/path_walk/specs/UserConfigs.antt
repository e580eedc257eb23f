-- User configurations.
use Rattle.std.specs.Prelude.{◌≡◌, ◌<◌, ◌≤◌, List, length, sum_by, Option, Some, None}
use Rattle.std.specs.List.{AllByRecursion}
use Rattle.net_base.specs.Blocks.{IsBlock}
use Rattle.net_base.specs.declared.ids.SwitchId.{SwitchId}
use Rattle.net_base.specs.declared.ids.Port.{Port}
use Rattle.topology.specs.Networks.{Network, switch_count, capacity_of, IsUsed, IsVlanId, IsAvailableTag}
use Rattle.flow_rules.specs.Tables.{IsTable, IsClear, rules_at}
use Rattle.flow_rules.specs.declared.rules.VlanTest.{VlanTest}
use Rattle.flow_rules.specs.declared.rules.VlanTest.TheVariants as test
use Rattle.flow_rules.specs.declared.rules.Rewrite.TheVariants.{Keep}
use Rattle.flow_rules.specs.declared.rules.Action.{Action}
use Rattle.flow_rules.specs.declared.rules.Action.TheVariants.{Discard, Out}
use Rattle.flow_rules.specs.declared.rules.Rule.{Rule}

-- any port, or a host port or link end of the switch
abbrev pub IsUserPort : Network → SwitchId → Option Port → Type 0
IsUserPort net s None = Unit {0}
IsUserPort net s (Some p) = IsUsed net (record { switch = s; port = p })

-- any VLAN, untagged, or an id that is no available tag
abbrev pub IsUserVlan : Network → VlanTest → Type 0
IsUserVlan net (test.Id id) = IsVlanId id × ¬ IsAvailableTag net id
IsUserVlan net _ = Unit {0}

-- discards, or sends out of a host port or link end of the switch and keeps the VLAN
abbrev pub IsUserAction : Network → SwitchId → Action → Type 0
IsUserAction net s Discard = Unit {0}
IsUserAction net s (Out port rewrite) = IsUsed net (record { switch = s; port = port }) × (rewrite ≡ Keep)

-- a rule that a user may write at a switch
pub record IsUserRule (net : Network) (s : SwitchId) (r : Rule) : Type 0 where
  pub above : 1 ≤ r.key.priority
  pub below : r.key.priority ≤ 16383
  pub port : IsUserPort net s r.key.pattern.in_port
  pub vlan : IsUserVlan net r.key.pattern.vlan
  pub dst : IsBlock r.key.pattern.dst
  pub action : IsUserAction net s r.action

-- a user configuration: one clear table per switch, within its capacity, of rules that a user may write
pub record IsUserConfig (net : Network) (tables : List (List Rule)) : Type 0 where
  pub count : length tables ≡ switch_count net
  pub few : sum_by length tables ≤ 2048
  pub distinct : (s : SwitchId) → IsTable (rules_at tables s)
  pub clear : (s : SwitchId) → IsClear (rules_at tables s)
  pub fits : (s : SwitchId) → s.0 < switch_count net → length (rules_at tables s) ≤ capacity_of net s
  pub rules : (s : SwitchId) → AllByRecursion (IsUserRule net s) (rules_at tables s)
