-- When two rules cover a common packet and neither comes first.
use Rattle.std.specs.Prelude.{◌≡◌, ◌⊎◌, ℕ, ◌<◌, List, slice_get, ◌==◌, ◌&&◌, ◌||◌, Bool, true, false, IsTrue, Option, Some, None}
use Rattle.net_base.specs.Blocks.{Block, in_block}
use Rattle.net_base.specs.declared.ids.Port.{Port}
use Rattle.flow_rules.specs.Patterns.{Header, covers}
use Rattle.flow_rules.specs.declared.rules.VlanTest.{VlanTest}
use Rattle.flow_rules.specs.declared.rules.VlanTest.TheVariants as test
use Rattle.flow_rules.specs.declared.rules.Pattern.{Pattern}
use Rattle.flow_rules.specs.declared.rules.Key.{Key}
use Rattle.flow_rules.specs.declared.rules.Rule.{Rule}

-- two rules of equal priority cover a common packet
pub record IsClash (a b : Rule) : Type 0 where
  pub priority : a.key.priority ≡ b.key.priority
  pub header : Header
  pub first : IsTrue (covers a.key.pattern header)
  pub second : IsTrue (covers b.key.pattern header)

-- whether some port is admitted by both choices
abbrev pub ports_meet : Option Port → Option Port → Bool
ports_meet None q = true
ports_meet (Some p) None = true
ports_meet (Some p) (Some q) = p.0 == q.0

-- whether some VLAN is admitted by both tests
abbrev pub vlans_meet : VlanTest → VlanTest → Bool
vlans_meet test.Any t = true
vlans_meet test.Untagged test.Any = true
vlans_meet test.Untagged test.Untagged = true
vlans_meet test.Untagged (test.Id n) = false
vlans_meet (test.Id m) test.Any = true
vlans_meet (test.Id m) test.Untagged = false
vlans_meet (test.Id m) (test.Id n) = m == n

-- whether some address lies in both blocks: the one holds the first address of the other
abbrev pub blocks_meet : Block → Block → Bool
blocks_meet a b = in_block a b.base || in_block b a.base

-- whether some packet is covered by both patterns
abbrev pub patterns_meet : Pattern → Pattern → Bool
patterns_meet a b = ports_meet a.in_port b.in_port && vlans_meet a.vlan b.vlan && blocks_meet a.dst b.dst

-- whether the keys have equal priority and cover a common packet
abbrev pub keys_clash : Key → Key → Bool
keys_clash a b = a.priority == b.priority && patterns_meet a.pattern b.pattern

-- the rules at two positions clash
pub record IsClashAt (rules : List Rule) (i j : ℕ) : Type 0 where
  pub one : Rule
  pub other : Rule
  pub one_at : slice_get rules i ≡ Some one
  pub other_at : slice_get rules j ≡ Some other
  pub clash : IsClash one other

-- the pair comes before the other: by its first position, and then by its second
abbrev pub IsPairBefore : ℕ → ℕ → ℕ → ℕ → Type 0
IsPairBefore k l i j = (k < i) ⊎ ((k ≡ i) × (l < j))

-- the least two positions of clashing rules
pub record IsLeastClash (rules : List Rule) (i j : ℕ) : Type 0 where
  pub ordered : i < j
  pub clash : IsClashAt rules i j
  pub least : (k l : ℕ) → k < l → IsPairBefore k l i j → ¬ IsClashAt rules k l
