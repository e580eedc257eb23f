-- The ranges of the numbers of a change: those that a plan file and a message have room for.
use Rattle.std.specs.Prelude.{◌<◌, ◌≤◌, Option, Some, None}
use Rattle.net_base.specs.Blocks.{IsBlock}
use Rattle.net_base.specs.declared.ids.Port.{Port}
use Rattle.topology.specs.Networks.{Network, switch_count, IsPortNumber, IsVlanId}
use Rattle.flow_rules.specs.declared.rules.VlanTest.{VlanTest}
use Rattle.flow_rules.specs.declared.rules.VlanTest.TheVariants as test
use Rattle.flow_rules.specs.declared.rules.Rewrite.{Rewrite}
use Rattle.flow_rules.specs.declared.rules.Rewrite.TheVariants.{Set}
use Rattle.flow_rules.specs.declared.rules.Action.{Action}
use Rattle.flow_rules.specs.declared.rules.Action.TheVariants.{Discard, Out}
use Rattle.update_model.specs.Changes.{switch_of, rule_of}
use Rattle.update_model.specs.declared.Change.{Change}

-- any port, or a port number in range
abbrev pub IsPlanPort : Option Port → Type 0
IsPlanPort None = Unit {0}
IsPlanPort (Some p) = IsPortNumber p.0

-- a test whose id is in range
abbrev pub IsPlanVlan : VlanTest → Type 0
IsPlanVlan (test.Id id) = IsVlanId id
IsPlanVlan _ = Unit {0}

-- a rewrite whose id is in range
abbrev pub IsPlanRewrite : Rewrite → Type 0
IsPlanRewrite (Set id) = IsVlanId id
IsPlanRewrite _ = Unit {0}

-- an action whose port and id are in range
abbrev pub IsPlanAction : Action → Type 0
IsPlanAction Discard = Unit {0}
IsPlanAction (Out port rewrite) = IsPortNumber port.0 × IsPlanRewrite rewrite

-- a change whose numbers are in range
pub record IsPlanChange (net : Network) (c : Change) : Type 0 where
  pub switch : (switch_of c).0 < switch_count net
  pub priority : 1 ≤ (rule_of c).key.priority
  pub priority_most : (rule_of c).key.priority ≤ 65535
  pub port : IsPlanPort (rule_of c).key.pattern.in_port
  pub vlan : IsPlanVlan (rule_of c).key.pattern.vlan
  pub dst : IsBlock (rule_of c).key.pattern.dst
  pub action : IsPlanAction (rule_of c).action
