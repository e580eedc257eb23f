-- What rules are found by, where one is looked for that a key clashes with.
use Rattle.std.specs.Prelude.{◌≡◌, ℕ, ◌*◌, ◌/◌, ◌-◌, ◌^◌, ◌==◌, ◌&&◌, ◌||◌, nat_le, Bool, true, false, List, Option, Some, None}
use Rattle.std.specs.List.{list_any}
use Rattle.std.specs.Option.{option_eq}
use Rattle.net_base.specs.Blocks.{Block, IsBlock}
use Rattle.net_base.specs.Members.{IsIn}
use Rattle.net_base.specs.declared.ids.Port.{Port}
use Rattle.net_base.specs.declared.ids.SwitchId.{SwitchId}
use Rattle.flow_rules.specs.Overlaps.{vlans_meet, blocks_meet}
use Rattle.flow_rules.specs.Patterns.{vlan_test_eq}
use Rattle.flow_rules.specs.Tables.{rules_at}
use Rattle.flow_rules.specs.declared.rules.Key.{Key}
use Rattle.flow_rules.specs.declared.rules.Rule.{Rule}
use Rattle.flow_rules.specs.declared.rules.VlanTest.{VlanTest}
use Rattle.flow_stats.specs.declared.index.Group.{Group}
use Rattle.flow_stats.specs.declared.index.Area.{Area}
use Rattle.flow_stats.specs.declared.index.Area.TheVariants.{Exactly, Within}
use Rattle.flow_stats.specs.declared.index.Mark.{Mark}

-- the block of a length that has an address
abbrev pub block_around : ℕ → ℕ → Block
block_around address len = record { base = address / 2 ^ (32 - len) * 2 ^ (32 - len); len = len }

-- whether two choices of an ingress port are the same
abbrev pub in_port_eq : Option Port → Option Port → Bool
in_port_eq = option_eq (λ (p q : Port). p.0 == q.0)

-- whether two groups are the same
abbrev pub group_eq : Group → Group → Bool
group_eq g h = g.switch.0 == h.switch.0 && (g.priority == h.priority && (option_eq in_port_eq g.in_port h.in_port && option_eq vlan_test_eq g.vlan h.vlan))

abbrev pub block_eq : Block → Block → Bool
block_eq a b = a.base == b.base && a.len == b.len

-- whether two areas are the same
abbrev pub area_eq : Area → Area → Bool
area_eq (Exactly a) (Exactly b) = block_eq a b
area_eq (Within a) (Within b) = block_eq a b
area_eq _ _ = false

abbrev pub mark_eq : Mark → Mark → Bool
mark_eq m n = group_eq m.group n.group && area_eq m.area n.area

-- whether the mark is one of those
abbrev pub has_mark : List Mark → Mark → Bool
has_mark marks m = list_any (mark_eq m) marks

-- whether the choice of an ingress port is one of these: none stands for each
abbrev pub is_port_of : Option (Option Port) → Option Port → Bool
is_port_of None p = true
is_port_of (Some q) p = in_port_eq p q

-- whether the VLAN test is one of these: none stands for each
abbrev pub is_vlan_of : Option VlanTest → VlanTest → Bool
is_vlan_of None t = true
is_vlan_of (Some u) t = vlan_test_eq t u

-- whether a key is of the group
abbrev pub is_in_group : Group → Key → Bool
is_in_group g k = k.priority == g.priority && (is_port_of g.in_port k.pattern.in_port && is_vlan_of g.vlan k.pattern.vlan)

-- whether the block is that of the area, or lies within it
abbrev pub is_in_area : Area → Block → Bool
is_in_area (Exactly a) b = block_eq b a
is_in_area (Within a) b = nat_le a.len b.len && block_eq (block_around b.base a.len) a

-- whether the mark stands for the key
abbrev pub is_mark_of : Mark → Key → Bool
is_mark_of m k = is_in_group m.group k && is_in_area m.area k.pattern.dst

-- of the switch's marks, just those stand there that stand for one of the rules
pub record IsIndexOf (s : SwitchId) (rules : List Rule) (marks : List Mark) : Type 0 where
  pub blocks : (r : Rule) → IsIn r rules → IsBlock r.key.pattern.dst
  pub stand : (m : Mark) → m.group.switch.0 ≡ s.0 → has_mark marks m ≡ list_any (λ r. is_mark_of m r.key) rules

-- the marks are those of the rules of all switches
abbrev pub AreIndexed : List (List Rule) → List Mark → Type 0
AreIndexed tables marks = (s : SwitchId) → IsIndexOf s (rules_at tables s) marks

-- the marks that pass the test are added
abbrev pub Adds : List Mark → (Mark → Bool) → List Mark → Type 0
Adds old test new = (m : Mark) → has_mark new m ≡ (test m || has_mark old m)

-- the marks of a block in a group
abbrev pub is_mark_in : Group → Block → Mark → Bool
is_mark_in g b m = group_eq g m.group && is_in_area m.area b

-- the marks of a key at a switch
abbrev pub is_mark_at : SwitchId → Key → Mark → Bool
is_mark_at s k m = s.0 == m.group.switch.0 && is_mark_of m k

-- the marks of a key at a switch in the groups of one choice of an ingress port, or of all
abbrev pub is_mark_with : SwitchId → Option (Option Port) → Key → Mark → Bool
is_mark_with s in_port k m =
    s.0 == m.group.switch.0 && (k.priority == m.group.priority && (option_eq in_port_eq in_port m.group.in_port && is_vlan_of m.group.vlan k.pattern.vlan)) && is_in_area m.area k.pattern.dst

-- whether a key whose ingress port is one of these has the other's priority and meets its other fields
abbrev pub meets_by : Option (Option Port) → Key → Key → Bool
meets_by in_port q k = q.priority == k.priority && (is_port_of in_port q.pattern.in_port && vlans_meet q.pattern.vlan k.pattern.vlan && blocks_meet q.pattern.dst k.pattern.dst)
