-- Tuple space search: a pattern is found by a number made of what it tests (Srinivasan, Suri and Varghese 1999).
use Rattle.std.specs.Prelude.{◌≡◌, ◌≢◌, ℕ, ◌+◌, ◌-◌, ◌*◌, ◌/◌, ◌%◌, ◌^◌, ◌<◌, ◌≤◌, ◌==◌, ◌&&◌, Bool, true, false, IsTrue, List, map, length, slice_index_or, Option, Some, None}
use Rattle.std.specs.List.{list_any}
use Rattle.net_base.specs.Blocks.{Block, IsBlock}
use Rattle.net_base.specs.Members.{IsIn}
use Rattle.net_base.specs.declared.ids.Port.{Port}
use Rattle.net_base.specs.declared.ids.Vlan.{Vlan}
use Rattle.net_base.specs.declared.ids.Vlan.TheVariants as vlan
use Rattle.flow_rules.specs.Patterns.{Header}
use Rattle.flow_rules.specs.Order.{port_rank, vlan_rank}
use Rattle.flow_rules.specs.declared.rules.VlanTest.{VlanTest}
use Rattle.flow_rules.specs.declared.rules.VlanTest.TheVariants as test
use Rattle.flow_rules.specs.declared.rules.Pattern.{Pattern}

-- whether both choose a port, or neither
abbrev pub ports_alike : Option Port → Option Port → Bool
ports_alike None None = true
ports_alike (Some p) (Some q) = true
ports_alike _ _ = false

-- whether both look at the VLAN, or neither
abbrev pub tests_alike : VlanTest → VlanTest → Bool
tests_alike test.Any test.Any = true
tests_alike test.Any _ = false
tests_alike _ test.Any = false
tests_alike _ _ = true

-- whether two patterns test the same beside the address
abbrev pub are_alike : Pattern → Pattern → Bool
are_alike a b = ports_alike a.in_port b.in_port && tests_alike a.vlan b.vlan

-- whether two patterns are of one kind: they look at the same parts of a packet
abbrev pub kind_eq : Pattern → Pattern → Bool
kind_eq a b = ports_alike a.in_port b.in_port && tests_alike a.vlan b.vlan && a.dst.len == b.dst.len

-- a packet's port, where the choice is of one
abbrev pub port_around : Option Port → Port → Option Port
port_around None port = None
port_around (Some p) port = Some port

-- the test that a packet's VLAN passes, where the test is one
abbrev pub test_around : VlanTest → Vlan → VlanTest
test_around test.Any _ = test.Any
test_around _ vlan.Untagged = test.Untagged
test_around _ (vlan.Id n) = test.Id n

-- the block of a length around an address
abbrev pub prefix_around : ℕ → ℕ → Block
prefix_around len address = record { base = address / 2 ^ (32 - len) * 2 ^ (32 - len); len = len }

-- the one pattern of a kind that covers a packet
abbrev pub pattern_around : Pattern → Header → Pattern
pattern_around p h = record { in_port = port_around p.in_port h.port; vlan = test_around p.vlan h.vlan; dst = prefix_around p.dst.len h.dst }

-- the slot of a pattern, of so many
abbrev pub slot_of : ℕ → Pattern → ℕ
slot_of count p = (p.dst.base * 2654435761 + port_rank p.in_port * 134217757 + vlan_rank p.vlan * 268435459 + p.dst.len * 536870923) / 65536 % count

-- the patterns of a space by their positions, one of each kind, and how many slots there are
pub record SpaceState : Type 0 where
  pub patterns : List Pattern
  pub kinds : List Pattern
  pub count : ℕ

-- the slots of the patterns
abbrev pub slots_of : SpaceState → List ℕ
slots_of s = map (slot_of s.count) s.patterns

-- no position as 0, a position as the number behind it
abbrev pub link_number : Option ℕ → ℕ
link_number None = 0
link_number (Some i) = i + 1

-- the number links to the last position below a limit that has a slot
pub record IsLink (slots : List ℕ) (slot limit n : ℕ) : Type 0 where
  pub within : n ≤ limit
  pub same : 0 < n → slice_index_or slots (n - 1) 0 ≡ slot
  pub last : (j : ℕ) → n ≤ j → j < limit → slice_index_or slots j 0 ≢ slot

-- heads and links lead to each position of a slot, from the last down; each pattern's kind is known
pub record IsSpace (heads nexts : List ℕ) (patterns kinds : List Pattern) : Type 0 where
  pub some_slots : 0 < length heads
  pub first : (slot : ℕ) → slot < length heads → IsLink (map (slot_of (length heads)) patterns) slot (length patterns) (slice_index_or heads slot 0)
  pub after : (i : ℕ) → i < length patterns → IsLink (map (slot_of (length heads)) patterns) (slice_index_or (map (slot_of (length heads)) patterns) i 0) i (slice_index_or nexts i 0)
  pub known : (p : Pattern) → IsIn p patterns → IsTrue (list_any (λ k. kind_eq k p) kinds)
  pub blocks : (p : Pattern) → IsIn p patterns → IsBlock p.dst
