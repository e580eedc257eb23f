-- Kinds of rules, by what they test beside the address, and from where to where a sweep meets them.
use Rattle.std.specs.Prelude.{ℕ, ◌+◌, ◌&&◌, ◌||◌, Bool, true, false, cond, not, List, Option, Some, None}
use Rattle.std.specs.List.{IsDistinct}
use Rattle.std.specs.Ordering.{nat_cmp, ordering_then, is_lt}
use Rattle.std.specs.declared.cmp.Ordering.{Ordering}
use Rattle.net_base.specs.Blocks.{block_size}
use Rattle.net_base.specs.declared.ids.Port.{Port}
use Rattle.flow_rules.specs.Overlaps.{keys_clash}
use Rattle.flow_rules.specs.declared.rules.VlanTest.{VlanTest}
use Rattle.flow_rules.specs.declared.rules.VlanTest.TheVariants as test
use Rattle.round_mix.specs.Order.{priority_of, base_of, port_of, vlan_of}
use Rattle.round_mix.specs.declared.MarkedRule.{MarkedRule}
use Rattle.round_mix.specs.declared.kinds.Kind.{Kind}
use Rattle.round_mix.specs.declared.kinds.Kind.TheVariants as kind
use Rattle.round_mix.specs.declared.kinds.Pair.{Pair}
use Rattle.round_mix.specs.declared.kinds.Spot.{Spot}

-- whether an ingress port is chosen
abbrev pub has_port : Option Port → Bool
has_port None = false
has_port (Some p) = true

-- whether a test looks at the VLAN
abbrev pub has_vlan : VlanTest → Bool
has_vlan test.Any = false
has_vlan test.Untagged = true
has_vlan (test.Id n) = true

-- the kind of a rule
abbrev pub kind_of : MarkedRule → Kind
kind_of m =
    cond (has_port m.rule.key.pattern.in_port) (cond (has_vlan m.rule.key.pattern.vlan) kind.Both kind.Port) (cond (has_vlan m.rule.key.pattern.vlan) kind.Vlan kind.Address)

-- whether rules of a kind choose an ingress port
abbrev pub tests_port : Kind → Bool
tests_port kind.Address = false
tests_port kind.Port = true
tests_port kind.Vlan = false
tests_port kind.Both = true

-- whether they look at the VLAN
abbrev pub tests_vlan : Kind → Bool
tests_vlan kind.Address = false
tests_vlan kind.Port = false
tests_vlan kind.Vlan = true
tests_vlan kind.Both = true

-- whether two kinds are the same
abbrev pub kind_eq : Kind → Kind → Bool
kind_eq kind.Address kind.Address = true
kind_eq kind.Port kind.Port = true
kind_eq kind.Vlan kind.Vlan = true
kind_eq kind.Both kind.Both = true
kind_eq _ _ = false

-- whether a rule of the first kind clashes with one of the second
abbrev pub clash_between : Pair → MarkedRule → MarkedRule → Bool
clash_between pair m n = kind_eq (kind_of m) pair.one && kind_eq (kind_of n) pair.two && keys_clash m.rule.key n.rule.key

-- the same two kinds, the other way round
abbrev pub turned_pair : Pair → Pair
turned_pair pair = record { one = pair.two; two = pair.one }

-- no rule clashes with one behind it, where they are of these kinds in this order
abbrev pub AreSwept : Pair → List MarkedRule → Type 0
AreSwept pair marks = IsDistinct (clash_between pair) marks

-- no two rules at different positions clash, where one is of the one kind and one of the other
abbrev pub AreKindsApart : Pair → List MarkedRule → Type 0
AreKindsApart pair marks = IsDistinct (λ m n. clash_between pair m n || clash_between pair n m) marks

-- where a sweep is at an address of a rule: by its priority, by what both kinds test, and then by the address
abbrev pub spot_of : Pair → MarkedRule → ℕ → Spot
spot_of pair m address = record {
  priority = priority_of m;
  port = cond (tests_port pair.one && tests_port pair.two) (port_of m) 0;
  vlan = cond (tests_vlan pair.one && tests_vlan pair.two) (vlan_of m) 0;
  address = address;
}

-- where it meets the rule
abbrev pub begin_of : Pair → MarkedRule → Spot
begin_of pair m = spot_of pair m (base_of m)

-- and where it leaves it
abbrev pub end_of : Pair → MarkedRule → Spot
end_of pair m = spot_of pair m (base_of m + block_size m.rule.key.pattern.dst)

-- how two spots compare: the greatest priority first
abbrev pub spot_cmp : Spot → Spot → Ordering
spot_cmp a b = ordering_then (ordering_then (ordering_then (nat_cmp b.priority a.priority) (nat_cmp a.port b.port)) (nat_cmp a.vlan b.vlan)) (nat_cmp a.address b.address)

-- whether the first spot comes before the second
abbrev pub is_sooner : Spot → Spot → Bool
is_sooner a b = is_lt (spot_cmp a b)

-- whether the sweep, if the rule is of the second kind, doesn't meet it before a spot
abbrev pub begins_past : Pair → Spot → MarkedRule → Bool
begins_past pair reach m = not (kind_eq (kind_of m) pair.two && is_sooner (begin_of pair m) reach)

-- the later of a spot and where the sweep leaves the rule, if that is of the first kind
abbrev pub reach_with : Pair → Spot → MarkedRule → Spot
reach_with pair reach m = cond (kind_eq (kind_of m) pair.one && is_sooner reach (end_of pair m)) (end_of pair m) reach
