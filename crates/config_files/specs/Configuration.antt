-- The reading of a configuration, by the table of its members.
use Rattle.std.specs.Prelude.{ℕ, ◌&&◌, List, [], ◌∷◌, ◌++◌, length, replicate, slice_set, find, Bool, false, not, nat_lt, nat_le, Option, None, Some, Result, Ok, Err, codes, if◌then◌else◌}
use Rattle.std.specs.List.{list_any, range_with_len}
use Rattle.std.specs.Option.{option_map_or}
use Rattle.std.specs.Str.{bytes_eq}
use Rattle.serde_json.specs.Data.{Data}
use Rattle.serde_json.specs.Find.{as_str, get}
use Rattle.net_base.specs.declared.ids.SwitchId.{SwitchId}
use Rattle.net_base.specs.declared.ids.Port.{Port}
use Rattle.net_base.specs.declared.field.Field.{Field}
use Rattle.net_base.specs.declared.field.Field.TheVariants as field
use Rattle.net_base.specs.Reading.{◌>>=◌, check, need, in_turn}
use Rattle.net_base.specs.Blocks.{Block}
use Rattle.net_base.specs.Text.{prefix_in}
use Rattle.flat_json.specs.JsonTree.{is_object, text_at, whole_at, whole_in, list_at, tree_in}
use Rattle.topology.specs.Networks.{Network, switch_count, switch_named, capacity_of, is_used, is_tag, is_vlan_id}
use Rattle.flow_rules.specs.Patterns.{key_eq}
use Rattle.flow_rules.specs.Overlaps.{keys_clash}
use Rattle.flow_rules.specs.Tables.{rules_at}
use Rattle.flow_rules.specs.declared.rules.VlanTest.{VlanTest}
use Rattle.flow_rules.specs.declared.rules.VlanTest.TheVariants as test
use Rattle.flow_rules.specs.declared.rules.Rewrite.TheVariants.{Keep}
use Rattle.flow_rules.specs.declared.rules.Action.{Action}
use Rattle.flow_rules.specs.declared.rules.Action.TheVariants.{Discard, Out}
use Rattle.flow_rules.specs.declared.rules.Pattern.{Pattern}
use Rattle.flow_rules.specs.declared.rules.Rule.{Rule}
use Rattle.config_files.specs.declared.fault.ConfigFault.{ConfigFault}
use Rattle.config_files.specs.declared.fault.ConfigFault.TheVariants.{NotJson, Shape, UnknownSwitch, BadPriority, BadPort, BadVlan, ReservedVlan, BadPrefix, KeyTwice, Overlap, OverCapacity, TooMany}

-- whether the value is this text
abbrev pub is_text : List ℕ → Data → Bool
is_text word d = option_map_or (λ text. bytes_eq text word) (as_str d) false

-- ---- the members of a rule

-- the number of a host port or link end of the switch
unfoldable pub port_in : Field → ℕ → Network → SwitchId → Data → Result Port ConfigFault
port_in field place net s d = do
  number ← need (whole_in d) (Shape field place)
  _ ← check (is_used net (record { switch = s; port = record { 0 = number } })) (BadPort place)
  Ok (record { 0 = number })

-- one port, of a value that isn't the word for none
unfoldable pub some_port : Field → ℕ → Network → SwitchId → Data → Result (Option Port) ConfigFault
some_port field place net s d = do
  port ← port_in field place net s d
  Ok (Some port)

-- none where the value is the word, or a port
abbrev pub port_or : List ℕ → Field → ℕ → Network → SwitchId → Data → Result (Option Port) ConfigFault
port_or word field place net s d = if is_text word d then Ok None else some_port field place net s d

-- an ingress port; a rule that names none has any
abbrev pub in_port_in : ℕ → Network → SwitchId → Option Data → Result (Option Port) ConfigFault
in_port_in place net s None = Ok None
in_port_in place net s (Some d) = port_or (codes "any") field.InPort place net s d

-- an id of a VLAN that is no available tag
unfoldable pub id_in : ℕ → Network → Data → Result VlanTest ConfigFault
id_in place net d = do
  id ← need (whole_in d) (Shape field.Vlan place)
  _ ← check (is_vlan_id id) (BadVlan place)
  _ ← check (not (is_tag net id)) (ReservedVlan place)
  Ok (test.Id id)

-- a VLAN test; a rule that names none has any
abbrev pub vlan_in : ℕ → Network → Option Data → Result VlanTest ConfigFault
vlan_in place net None = Ok test.Any
vlan_in place net (Some d) =
    if is_text (codes "any") d then Ok test.Any else if is_text (codes "untagged") d then Ok test.Untagged else id_in place net d

-- discards where there is no port, or sends out of it and keeps the VLAN
abbrev pub action_by : Option Port → Action
action_by None = Discard
action_by (Some port) = Out port Keep

-- a priority of 1 to 16383
unfoldable pub priority_in : ℕ → Data → Result ℕ ConfigFault
priority_in place d = do
  priority ← need (whole_at (codes "priority") d) (Shape field.Priority place)
  _ ← check (nat_le 1 priority && nat_le priority 16383) (BadPriority place)
  Ok priority

-- the prefix of the destinations
unfoldable pub dst_in : ℕ → Data → Result Block ConfigFault
dst_in place d = do
  text ← need (text_at (codes "dst") d) (Shape field.Dst place)
  need (prefix_in text) (BadPrefix place)

-- the pattern of a rule
unfoldable pub pattern_in : ℕ → Network → SwitchId → Data → Result Pattern ConfigFault
pattern_in place net s d = do
  in_port ← in_port_in place net s (get (codes "in_port") d)
  vlan ← vlan_in place net (get (codes "vlan") d)
  dst ← dst_in place d
  Ok (record { in_port = in_port; vlan = vlan; dst = dst })

-- the action of a rule
unfoldable pub action_in : ℕ → Network → SwitchId → Data → Result Action ConfigFault
action_in place net s d = do
  out ← need (get (codes "out") d) (Shape field.Out place)
  port ← port_or (codes "drop") field.Out place net s out
  Ok (action_by port)

-- one rule of a switch
unfoldable pub rule_in : ℕ → Network → SwitchId → Data → Result Rule ConfigFault
rule_in place net s d = do
  priority ← priority_in place d
  pattern ← pattern_in place net s d
  action ← action_in place net s d
  Ok (record { key = record { priority = priority; pattern = pattern }; action = action })

-- ---- the rules, in their order

-- the rules of a switch with one more, whose key is new and which clashes with none
unfoldable pub rules_with : ℕ → List Rule → Rule → Result (List Rule) ConfigFault
rules_with place rules rule = do
  _ ← check (not (list_any (λ q. key_eq q.key rule.key) rules)) (KeyTwice place)
  _ ← check (not (list_any (λ q. keys_clash q.key rule.key) rules)) (Overlap place)
  Ok (rules ++ rule ∷ [])

-- the tables with one rule more at the switch
unfoldable pub with_rule : ℕ → List (List Rule) → SwitchId → Rule → Result (List (List Rule)) ConfigFault
with_rule place tables s rule = do
  rules ← rules_with place (rules_at tables s) rule
  Ok (slice_set tables s.0 rules)

-- the tables with the rule of the item, at the switch
unfoldable pub rule_to : Network → ℕ → List (List Rule) → SwitchId → Data → Result (List (List Rule)) ConfigFault
rule_to net place tables s d = do
  rule ← rule_in place net s d
  with_rule place tables s rule

-- the switch of an item
unfoldable pub switch_in : ℕ → Network → Data → Result SwitchId ConfigFault
switch_in place net d = do
  _ ← check (nat_lt place 2048) (TooMany place)
  _ ← check (is_object d) (Shape field.Rules place)
  name ← need (text_at (codes "switch") d) (Shape field.Switch place)
  s ← need (switch_named net.names name) (UnknownSwitch place)
  Ok (record { 0 = s })

-- one item of `rules`
unfoldable pub rule_at : Network → ℕ → List (List Rule) → Data → Result (List (List Rule)) ConfigFault
rule_at net place tables d = do
  s ← switch_in place net d
  rule_to net place tables s d

-- ---- the file

-- whether the table of the switch is longer than its capacity
abbrev pub is_over : Network → List (List Rule) → ℕ → Bool
is_over net tables s = nat_lt (capacity_of net (record { 0 = s })) (length (rules_at tables (record { 0 = s })))

-- the least switch whose table is too long
abbrev pub over_capacity : Network → List (List Rule) → Option ℕ
over_capacity net tables = find (is_over net tables) (range_with_len 0 (switch_count net))

-- no table is too long
abbrev pub fit : Option ℕ → List (List Rule) → Result (List (List Rule)) ConfigFault
fit None tables = Ok tables
fit (Some s) tables = Err (OverCapacity (record { 0 = s }))

-- the items of `rules`
unfoldable pub items_in : Data → Result (List Data) ConfigFault
items_in top = do
  _ ← check (is_object top) (Shape field.Top 0)
  need (list_at (codes "rules") top) (Shape field.Rules 0)

-- the tables with the rules of the items, where none becomes too long
unfoldable pub filled_in : Network → List (List Rule) → List Data → Result (List (List Rule)) ConfigFault
filled_in net before items = do
  tables ← in_turn (rule_at net) 0 before items
  fit (over_capacity net tables) tables

-- the tables of the file
unfoldable pub tables_in : Network → Data → Result (List (List Rule)) ConfigFault
tables_in net top = do
  items ← items_in top
  filled_in net (replicate (switch_count net) []) items

-- the configuration that the bytes describe, or the first refusal
unfoldable pub configuration_in : Network → List ℕ → Result (List (List Rule)) ConfigFault
configuration_in net bytes = do
  top ← need (tree_in bytes) NotJson
  tables_in net top
