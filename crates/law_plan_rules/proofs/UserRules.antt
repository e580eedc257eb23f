-- Rules that a user may write are rules that a plan may write.
use Rattle.std.proofs.Common.{◌≡◌, ℕ, zero, suc, ◌<◌, List, [], ◌∷◌, get_or, sym, subst, arith}
use Rattle.std.specs.Prelude.{Option, Some, None}
use Rattle.std.specs.List.{AllByRecursion}
use Rattle.net_base.specs.declared.ids.SwitchId.{SwitchId}
use Rattle.net_base.specs.declared.ids.Port.{Port}
use Rattle.net_base.specs.declared.ids.Stop.{Stop}
use Rattle.net_base.proofs.MemberLaws.{each_at}
use Rattle.topology.specs.Networks.{Network, IsNetwork, IsUsed, IsPortNumber, switch_count, used_ports}
use Rattle.flow_rules.specs.declared.rules.Rule.{Rule}
use Rattle.flow_rules.specs.declared.rules.VlanTest.{VlanTest}
use Rattle.flow_rules.specs.declared.rules.VlanTest.TheVariants as test
use Rattle.flow_rules.specs.declared.rules.Rewrite.{Rewrite}
use Rattle.flow_rules.specs.declared.rules.Rewrite.TheVariants.{Keep}
use Rattle.flow_rules.specs.declared.rules.Action.{Action}
use Rattle.flow_rules.specs.declared.rules.Action.TheVariants.{Discard, Out}
use Rattle.path_walk.specs.UserConfigs.{IsUserPort, IsUserVlan, IsUserAction, IsUserRule, IsUserConfig}
use Rattle.update_model.specs.Changes.{switch_of, rule_of}
use Rattle.update_model.specs.Ranges.{IsPlanPort, IsPlanVlan, IsPlanRewrite, IsPlanAction, IsPlanChange}
use Rattle.update_model.specs.declared.Change.{Change}
use Rattle.law_plan_rules.specs.PlanRules.{IsPlanRule, ArePlanTables}

-- a rewrite that keeps the VLAN names no id
pub keep_plan : (rewrite : Rewrite) → rewrite ≡ Keep → IsPlanRewrite rewrite
keep_plan rewrite e = subst IsPlanRewrite (sym e) tt

module _ (net : Network) where
  -- a change of such a rule at a switch of the network
  pub change_plan : (c : Change) → (switch_of c).0 < switch_count net → IsPlanRule (rule_of c) → IsPlanChange net c
  change_plan c within is =
      record { switch = within; priority = is.priority; priority_most = is.priority_most; port = is.port; vlan = is.vlan; dst = is.dst; action = is.action }

  pub rule_of_plan : (c : Change) → IsPlanChange net c → IsPlanRule (rule_of c)
  rule_of_plan c is = record { priority = is.priority; priority_most = is.priority_most; port = is.port; vlan = is.vlan; dst = is.dst; action = is.action }

  module _ (is_net : IsNetwork net) where
    pub used_number : (stop : Stop) → IsUsed net stop → IsPortNumber stop.port.0
    used_number stop used = (each_at (λ (x : Stop). (x.switch.0 < switch_count net) × IsPortNumber x.port.0) (used_ports net) stop is_net.ports used).1

    pub port_plan : (s : SwitchId) (port : Option Port) → IsUserPort net s port → IsPlanPort port
    port_plan s None user = tt
    port_plan s (Some p) user = used_number (record { switch = s; port = p }) user

    vlan_plan : (v : VlanTest) → IsUserVlan net v → IsPlanVlan v
    vlan_plan test.Any user = tt
    vlan_plan test.Untagged user = tt
    vlan_plan (test.Id id) user = user.0

    action_plan : (s : SwitchId) (action : Action) → IsUserAction net s action → IsPlanAction action
    action_plan s Discard user = tt
    action_plan s (Out port rewrite) user = (used_number (record { switch = s; port = port }) user.0, keep_plan rewrite user.1)

    pub rule_plan : (s : SwitchId) (r : Rule) → IsUserRule net s r → IsPlanRule r
    rule_plan s r user = record {
      priority = user.above;
      priority_most = (let most = user.below in omega arith);
      port = port_plan s r.key.pattern.in_port user.port;
      vlan = vlan_plan r.key.pattern.vlan user.vlan;
      dst = user.dst;
      action = action_plan s r.action user.action;
    }

    rules_plan : (s : SwitchId) (rules : List Rule) → AllByRecursion (IsUserRule net s) rules → AllByRecursion IsPlanRule rules
    rules_plan s [] user = tt
    rules_plan s (r ∷ rules) user = (rule_plan s r user.0, rules_plan s rules user.1)

    each_table : (tables : List (List Rule)) → ((i : ℕ) → AllByRecursion IsPlanRule (get_or tables i [])) → ArePlanTables tables
    each_table [] each = tt
    each_table (rules ∷ tables) each = (each zero, each_table tables (λ i. each (suc i)))

    -- the tables of a user configuration
    pub tables_plan : (tables : List (List Rule)) → IsUserConfig net tables → ArePlanTables tables
    tables_plan tables user = each_table tables (λ i. rules_plan (record { 0 = i }) (get_or tables i []) (user.rules (record { 0 = i })))
