-- Which packets a pattern covers, and when two patterns are the same.
use Rattle.std.specs.Prelude.{ℕ, ◌==◌, ◌&&◌, Bool, true, false, Option}
use Rattle.std.specs.Option.{option_eq, option_map_or}
use Rattle.net_base.specs.Blocks.{in_block}
use Rattle.net_base.specs.declared.ids.Port.{Port}
use Rattle.net_base.specs.declared.ids.Vlan.{Vlan}
use Rattle.net_base.specs.declared.ids.Vlan.TheVariants as vlan
use Rattle.flow_rules.specs.declared.rules.VlanTest.{VlanTest}
use Rattle.flow_rules.specs.declared.rules.VlanTest.TheVariants as test
use Rattle.flow_rules.specs.declared.rules.Pattern.{Pattern}
use Rattle.flow_rules.specs.declared.rules.Key.{Key}

-- what a lookup sees of a packet
pub record Header : Type 0 where
  pub port : Port
  pub vlan : Vlan
  pub dst : ℕ

-- any port, or the packet's ingress port
abbrev pub admits_port : Option Port → Port → Bool
admits_port in_port port = option_map_or (λ p. p.0 == port.0) in_port true

-- any VLAN, no tag, or the packet's id
abbrev pub admits_vlan : VlanTest → Vlan → Bool
admits_vlan test.Any v = true
admits_vlan test.Untagged vlan.Untagged = true
admits_vlan (test.Id n) (vlan.Id id) = n == id
admits_vlan _ _ = false

-- whether a pattern covers a packet: each of its three parts does
abbrev pub covers : Pattern → Header → Bool
covers p h = option_map_or (λ q. q.0 == h.port.0) p.in_port true && admits_vlan p.vlan h.vlan && in_block p.dst h.dst

-- whether two VLAN tests are the same
abbrev pub vlan_test_eq : VlanTest → VlanTest → Bool
vlan_test_eq test.Any test.Any = true
vlan_test_eq test.Untagged test.Untagged = true
vlan_test_eq (test.Id m) (test.Id n) = m == n
vlan_test_eq _ _ = false

-- whether two keys are the same
abbrev pub key_eq : Key → Key → Bool
key_eq a b =
    a.priority == b.priority && option_eq (λ (p q : Port). p.0 == q.0) a.pattern.in_port b.pattern.in_port && vlan_test_eq a.pattern.vlan b.pattern.vlan
    && a.pattern.dst.base == b.pattern.dst.base && a.pattern.dst.len == b.pattern.dst.len
