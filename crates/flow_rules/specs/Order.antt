-- The order of keys: priority descending, then any port before ports, any VLAN before untagged before ids,
-- then the prefix's base and length ascending.
use Rattle.std.specs.Prelude.{ℕ, ◌+◌, List, [], ◌∷◌, Option, Some, None}
use Rattle.std.specs.Ordering.{nat_cmp, is_lt}
use Rattle.std.specs.List.Sorted.{IsSortedBy}
use Rattle.std.specs.declared.cmp.Ordering.{Ordering}
use Rattle.std.specs.declared.cmp.Ordering.TheVariants.{Less, Equal, Greater}
use Rattle.net_base.specs.declared.ids.Port.{Port}
use Rattle.flow_rules.specs.declared.rules.VlanTest.{VlanTest}
use Rattle.flow_rules.specs.declared.rules.VlanTest.TheVariants as test
use Rattle.flow_rules.specs.declared.rules.Key.{Key}
use Rattle.flow_rules.specs.declared.rules.Rule.{Rule}

-- any as 0, a port as its number
abbrev pub port_rank : Option Port → ℕ
port_rank None = 0
port_rank (Some p) = 1 + p.0

-- any as 0, untagged as 1, an id above them
abbrev pub vlan_rank : VlanTest → ℕ
vlan_rank test.Any = 0
vlan_rank test.Untagged = 1
vlan_rank (test.Id n) = 2 + n

-- the first that tells two lists of numbers apart decides
abbrev pub by_parts : List Ordering → Ordering
by_parts [] = Equal
by_parts (Less ∷ rest) = Less
by_parts (Greater ∷ rest) = Greater
by_parts (Equal ∷ rest) = by_parts rest

-- the key order
abbrev pub key_cmp : Key → Key → Ordering
key_cmp a b = by_parts (
    nat_cmp b.priority a.priority ∷ nat_cmp (port_rank a.pattern.in_port) (port_rank b.pattern.in_port)
    ∷ nat_cmp (vlan_rank a.pattern.vlan) (vlan_rank b.pattern.vlan)
    ∷ nat_cmp a.pattern.dst.base b.pattern.dst.base ∷ nat_cmp a.pattern.dst.len b.pattern.dst.len ∷ [])

-- rules in key order
abbrev pub AreByKey : List Rule → Type 0
AreByKey rules = IsSortedBy (λ a b. is_lt (key_cmp a.key b.key)) rules
