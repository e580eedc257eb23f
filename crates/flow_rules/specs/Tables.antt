-- Flow tables, and what a lookup in one gives.
use Rattle.std.specs.Prelude.{◌≡◌, ℕ, nat_le, IsTrue, List, [], map, filter, find, flat_map, Option, IfSome, option_map, slice_index_or}
use Rattle.std.specs.List.{list_all}
use Rattle.std.specs.Option.{option_map_or}
use Rattle.net_base.specs.Blocks.{Block}
use Rattle.net_base.specs.Members.{IsIn, IsDistinct}
use Rattle.net_base.specs.declared.ids.SwitchId.{SwitchId}
use Rattle.flow_rules.specs.Patterns.{Header, covers, key_eq}
use Rattle.flow_rules.specs.Tuples.{SpaceState}
use Rattle.flow_rules.specs.declared.rules.Pattern.{Pattern}
use Rattle.flow_rules.specs.declared.rules.Key.{Key}
use Rattle.flow_rules.specs.declared.rules.Rule.{Rule}
use Rattle.flow_rules.specs.declared.rules.Action.{Action}
use Rattle.flow_rules.specs.declared.rules.Action.TheVariants.{Discard}

-- a table, and how many rules it has room for besides
pub record TableState : Type 0 where
  pub rules : List Rule
  pub spare : ℕ

-- the keys of a table's rules
abbrev pub keys_of : List Rule → List Key
keys_of rules = map (λ r. r.key) rules

-- a table: no key stands twice
abbrev pub IsTable : List Rule → Type 0
IsTable rules = IsDistinct (keys_of rules)

-- the patterns of a table's rules
abbrev pub patterns_of : List Rule → List Pattern
patterns_of rules = map (λ r. r.key.pattern) rules

-- a table, and a space of its rules' patterns where there is one
pub record IsTableWith (rules : List Rule) (space : Option SpaceState) : Type 0 where
  pub distinct : IsTable rules
  pub indexed : IfSome space (λ s. s.patterns ≡ patterns_of rules)

-- the tables of all switches, without their room
abbrev pub rules_of_all : List TableState → List (List Rule)
rules_of_all tables = map (λ t. t.rules) tables

-- the rules of a switch; none where there is no such switch
abbrev pub rules_at : List (List Rule) → SwitchId → List Rule
rules_at tables s = slice_index_or tables s.0 []

-- the prefixes of tables
abbrev pub table_blocks : List (List Rule) → List Block
table_blocks tables = flat_map (λ rules. map (λ r. r.key.pattern.dst) rules) tables

-- the rules that cover a packet
abbrev pub covering_rules : Header → List Rule → List Rule
covering_rules h rules = filter (λ r. covers r.key.pattern h) rules

-- the first of the covering rules whose priority no covering rule exceeds
abbrev pub matched_rule : Header → List Rule → Option Rule
matched_rule h rules = find (λ r. list_all (λ q. nat_le q.key.priority r.key.priority) (covering_rules h rules)) (covering_rules h rules)

-- the action of the rule that matches, or discard
abbrev pub lookup : Header → List Rule → Action
lookup h rules = option_map_or (λ r. r.action) (matched_rule h rules) Discard

-- the action of the rule of a key, where there is one
abbrev pub action_of : Key → List Rule → Option Action
action_of k rules = option_map (λ r. r.action) (find (λ r. key_eq r.key k) rules)

-- no packet is covered by two rules of equal priority
abbrev pub IsClear : List Rule → Type 0
IsClear rules =
    (h : Header) (a b : Rule) → IsIn a rules → IsIn b rules → IsTrue (covers a.key.pattern h) → IsTrue (covers b.key.pattern h)
    → a.key.priority ≡ b.key.priority → a ≡ b
