-- A rule that is written is read again.
use Rattle.std.proofs.Common.{◌≡◌, ℕ, ◌<◌, true, false, List, [], get_or, codes, Option, Some, None, Ok, refl, sym, ap, ◌∙◌}
use Rattle.std.specs.Str.{bytes_eq}
use Rattle.std.proofs.lemmas.Bool.{le-leb, lt-ltb, false_from_ne_true}
use Rattle.serde_json.specs.Find.{get_member}
use Rattle.net_base.specs.Members.{IsDistinct}
use Rattle.net_base.specs.declared.field.Field.{Field}
use Rattle.net_base.specs.declared.field.Field.TheVariants as field
use Rattle.net_base.specs.declared.ids.Port.{Port}
use Rattle.net_base.specs.declared.ids.SwitchId.{SwitchId}
use Rattle.net_base.proofs.Prefixes.{prefix_in-text}
use Rattle.topology.specs.Networks.{Network, switch_count, IsUsed, is_used, is_tag, used_ports}
use Rattle.topology.proofs.LinkLaws.{any_from_in}
use Rattle.topology.proofs.EntryLaws.{tag_found}
use Rattle.topology.proofs.NamedLaws.{named_again}
use Rattle.flow_rules.specs.declared.rules.VlanTest.{VlanTest}
use Rattle.flow_rules.specs.declared.rules.VlanTest.TheVariants as test
use Rattle.flow_rules.specs.declared.rules.Action.{Action}
use Rattle.flow_rules.specs.declared.rules.Action.TheVariants.{Discard, Out}
use Rattle.flow_rules.specs.declared.rules.Rule.{Rule}
use Rattle.path_walk.specs.UserConfigs.{IsUserPort, IsUserVlan, IsUserAction, IsUserRule}
use Rattle.config_files.specs.Configuration.{port_or, port_in, some_port, in_port_in, id_in, vlan_in, action_by, priority_in, dst_in, pattern_in, action_in, rule_in, switch_in}
use Rattle.config_files.specs.RuleTrees.{whole_tree, in_port_tree, test_tree, out_tree, fixed_members}
use Rattle.config_files.specs.ConfigText.{rule_members, rule_tree}
use Rattle.config_files.proofs.PutLaws.{beside, there}

-- ---- the members of a rule

fixed_again : (net : Network) (s : SwitchId) (r : Rule) (q : List ℕ) → bytes_eq q (codes "vlan") ≡ false → bytes_eq q (codes "in_port") ≡ false → get_member q (rule_members net s r) ≡ get_member q (fixed_members (get_or net.names s.0 []) r)
unfolding rule_members
fixed_again net s r q vlan in_port =
    beside q (codes "vlan") (test_tree r.key.pattern.vlan) _ vlan ∙ beside q (codes "in_port") (in_port_tree r.key.pattern.in_port) (fixed_members (get_or net.names s.0 []) r) in_port

in_port_again : (net : Network) (s : SwitchId) (r : Rule) → get_member (codes "in_port") (rule_members net s r) ≡ in_port_tree r.key.pattern.in_port
unfolding rule_members
in_port_again net s r =
    beside (codes "in_port") (codes "vlan") (test_tree r.key.pattern.vlan) _ refl ∙ there (codes "in_port") (in_port_tree r.key.pattern.in_port) (fixed_members (get_or net.names s.0 []) r) refl

vlan_again : (net : Network) (s : SwitchId) (r : Rule) → get_member (codes "vlan") (rule_members net s r) ≡ test_tree r.key.pattern.vlan
unfolding rule_members
vlan_again net s r =
    there (codes "vlan") (test_tree r.key.pattern.vlan) _ (beside (codes "vlan") (codes "in_port") (in_port_tree r.key.pattern.in_port) (fixed_members (get_or net.names s.0 []) r) refl)

-- ---- its parts

used_test : (net : Network) (s : SwitchId) (p : Port) → IsUsed net (record { switch = s; port = p }) → is_used net (record { switch = s; port = p }) ≡ true
used_test net s p used = any_from_in (record { switch = s; port = p }) (used_ports net) used

port_read : (f : Field) (place : ℕ) (net : Network) (s : SwitchId) (p : Port) → IsUsed net (record { switch = s; port = p }) → some_port f place net s (whole_tree p.0) ≡ Ok (Some p)
unfolding some_port port_in
port_read f place net s p used = rw (used_test net s p used) refl

in_port_read : (place : ℕ) (net : Network) (s : SwitchId) (o : Option Port) → IsUserPort net s o → in_port_in place net s (in_port_tree o) ≡ Ok o
in_port_read place net s None user = refl
in_port_read place net s (Some p) user = port_read field.InPort place net s p user

id_read : (place : ℕ) (net : Network) (id : ℕ) → IsUserVlan net (test.Id id) → id_in place net (whole_tree id) ≡ Ok (test.Id id)
unfolding id_in
id_read place net id user =
    let free : is_tag net id ≡ false = false_from_ne_true (is_tag net id) (λ e. user.1 ((tag_found net id).0 e)) in
    rw (le-leb 1 id user.0.0, le-leb id 4094 user.0.1, free) refl

vlan_read : (place : ℕ) (net : Network) (t : VlanTest) → IsUserVlan net t → vlan_in place net (test_tree t) ≡ Ok t
vlan_read place net test.Any user = refl
vlan_read place net test.Untagged user = refl
vlan_read place net (test.Id id) user = id_read place net id user

-- the port of the output
abbrev out_of : Action → Option Port
out_of Discard = None
out_of (Out port rewrite) = Some port

out_read : (place : ℕ) (net : Network) (s : SwitchId) (a : Action) → IsUserAction net s a → port_or (codes "drop") field.Out place net s (out_tree a) ≡ Ok (out_of a)
out_read place net s Discard user = refl
out_read place net s (Out port rewrite) user = port_read field.Out place net s port user.0

action_made : (net : Network) (s : SwitchId) (a : Action) → IsUserAction net s a → action_by (out_of a) ≡ a
action_made net s Discard user = refl
action_made net s (Out port rewrite) user = ap (Out port) (sym user.1)

pub rule_again : (net : Network) (place : ℕ) (s : SwitchId) (r : Rule) → IsUserRule net s r → rule_in place net s (rule_tree net s r) ≡ Ok r
unfolding rule_in priority_in pattern_in dst_in action_in
rule_again net place s r user =
    rw (
      fixed_again net s r (codes "priority") refl refl,
      le-leb 1 r.key.priority user.above,
      le-leb r.key.priority 16383 user.below,
      in_port_again net s r,
      in_port_read place net s r.key.pattern.in_port user.port,
      vlan_again net s r,
      vlan_read place net r.key.pattern.vlan user.vlan,
      fixed_again net s r (codes "dst") refl refl,
      prefix_in-text r.key.pattern.dst user.dst,
      fixed_again net s r (codes "out") refl refl,
      out_read place net s r.action user.action,
      action_made net s r.action user.action,
    ) refl

-- ---- its switch

pub switch_again : (net : Network) (place : ℕ) (s : SwitchId) (r : Rule) → IsDistinct net.names → s.0 < switch_count net → place < 2048 → switch_in place net (rule_tree net s r) ≡ Ok s
unfolding switch_in
switch_again net place s r distinct known few =
    rw (
      lt-ltb place 2048 few,
      fixed_again net s r (codes "switch") refl refl,
      named_again net.names s.0 distinct known,
    ) refl
