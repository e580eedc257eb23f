-- The reading of rules, changes and rounds, by the tables of their members.
use Rattle.std.specs.Prelude.{ℕ, ◌+◌, ◌&&◌, List, [], ◌∷◌, ◌++◌, length, sum_by, slice_get, Bool, true, false, nat_lt, nat_le, Option, None, Some, option_map, option_and_then, Result, Ok, codes, if◌then◌else◌}
use Rattle.std.specs.Option.{option_map_or}
use Rattle.std.specs.Str.{bytes_eq}
use Rattle.serde_json.specs.Data.{Data}
use Rattle.serde_json.specs.Find.{get, as_str, as_bool}
use Rattle.net_base.specs.declared.field.Field.{Field}
use Rattle.net_base.specs.declared.field.Field.TheVariants as field
use Rattle.net_base.specs.declared.ids.Port.{Port}
use Rattle.net_base.specs.Fields.{field_name}
use Rattle.net_base.specs.Reading.{◌>>=◌, check, need, in_turn}
use Rattle.net_base.specs.Text.{prefix_in}
use Rattle.flat_json.specs.JsonTree.{is_object, text_at, whole_in, whole_at, list_in, list_at}
use Rattle.topology.specs.Networks.{Network, switch_named, is_vlan_id}
use Rattle.flow_rules.specs.declared.rules.VlanTest.{VlanTest}
use Rattle.flow_rules.specs.declared.rules.VlanTest.TheVariants as test
use Rattle.flow_rules.specs.declared.rules.Rewrite.{Rewrite}
use Rattle.flow_rules.specs.declared.rules.Rewrite.TheVariants.{Keep, Set, Strip}
use Rattle.flow_rules.specs.declared.rules.Action.{Action}
use Rattle.flow_rules.specs.declared.rules.Action.TheVariants.{Discard, Out}
use Rattle.update_model.specs.declared.Change.{Change}
use Rattle.update_model.specs.declared.Change.TheVariants as change
use Rattle.plan_format.specs.declared.rules.TestWord.{TestWord}
use Rattle.plan_format.specs.declared.rules.TestWord.TheVariants as word
use Rattle.plan_format.specs.declared.rules.RuleWords.{RuleWords}
use Rattle.plan_format.specs.declared.rules.PlanRule.{PlanRule}
use Rattle.plan_format.specs.declared.changes.ChangeKind.{ChangeKind}
use Rattle.plan_format.specs.declared.changes.ChangeKind.TheVariants.{Insert, Delete, Replace}
use Rattle.plan_format.specs.declared.changes.Spelling.{Spelling}
use Rattle.plan_format.specs.declared.changes.Spelling.TheVariants.{Objects, Numbers}
use Rattle.plan_format.specs.declared.fault.PlanFault.{PlanFault}
use Rattle.plan_format.specs.declared.fault.PlanFault.TheVariants.{Shape, UnknownSwitch, BadRule, BadIndex, TooMany}

-- ---- the members of a rule

-- whether the value is this text
abbrev pub is_text : List ℕ → Data → Bool
is_text word d = option_map_or (λ text. bytes_eq text word) (as_str d) false

-- a whole number, or none where the value is the word
abbrev pub number_or : List ℕ → Data → Option (Option ℕ)
number_or word d = if is_text word d then Some None else option_map (λ n. Some n) (whole_in d)

-- the member `in_port`; a rule without it is for any
abbrev pub in_port_word : Option Data → Option (Option ℕ)
in_port_word None = Some None
in_port_word (Some d) = number_or (codes "any") d

-- the member `vlan`; a rule without it is for any
abbrev pub vlan_word : Option Data → Option TestWord
vlan_word None = Some word.Any
vlan_word (Some d) =
    if is_text (codes "any") d then Some word.Any else if is_text (codes "untagged") d then Some word.Untagged else option_map word.Number (whole_in d)

-- the member `out`, which must be there
abbrev pub out_word : Option Data → Option (Option ℕ)
out_word d = option_and_then (number_or (codes "drop")) d

-- the member `set`; a rule without it sets nothing
abbrev pub set_word : Option Data → Option (Option ℕ)
set_word None = Some None
set_word (Some d) = option_map (λ n. Some n) (whole_in d)

-- the member `strip`, which is true where it is there
abbrev pub strip_word : Option Data → Option Bool
strip_word None = Some false
strip_word (Some d) = option_and_then (λ b. if b then Some true else None) (as_bool d)

-- ---- their ranges

-- a number that a port may have
abbrev pub is_port : ℕ → Bool
is_port n = nat_le 1 n && nat_le n 65279

-- any port, or one that may be
abbrev pub port_choice : Option ℕ → Option (Option Port)
port_choice None = Some None
port_choice (Some n) = if is_port n then Some (Some (record { 0 = n })) else None

-- a test of a VLAN that may be
abbrev pub test_of : TestWord → Option VlanTest
test_of word.Any = Some test.Any
test_of word.Untagged = Some test.Untagged
test_of (word.Number n) = if is_vlan_id n then Some (test.Id n) else None

-- at most one rewrite
abbrev pub rewrite_of : Option ℕ → Bool → Option Rewrite
rewrite_of None false = Some Keep
rewrite_of None true = Some Strip
rewrite_of (Some id) false = if is_vlan_id id then Some (Set id) else None
rewrite_of (Some id) true = None

-- an output with a rewrite
abbrev pub output_of : ℕ → Option Rewrite → Option Action
output_of port None = None
output_of port (Some rewrite) = if is_port port then Some (Out (record { 0 = port }) rewrite) else None

-- a drop, without a rewrite
abbrev pub drop_of : Option ℕ → Bool → Option Action
drop_of None false = Some Discard
drop_of set strip = None

-- a drop, or an output
abbrev pub action_of : Option ℕ → Option ℕ → Bool → Option Action
action_of None set strip = drop_of set strip
action_of (Some port) set strip = output_of port (rewrite_of set strip)

-- the rule with these members, each in its range
unfoldable pub rule_of : ℕ → RuleWords → Result PlanRule PlanFault
rule_of place words = do
  _ ← check (nat_le 1 words.priority && nat_le words.priority 65535) (BadRule place)
  in_port ← need (port_choice words.in_port) (BadRule place)
  vlan ← need (test_of words.vlan) (BadRule place)
  dst ← need words.dst (BadRule place)
  action ← need (action_of words.out words.set words.strip) (BadRule place)
  Ok (record { switch = words.switch; rule = record { key = record { priority = words.priority; pattern = record { in_port = in_port; vlan = vlan; dst = dst } }; action = action } })

-- a rule of a switch: its members, each of its kind, and then their ranges
unfoldable pub rule_in : Network → ℕ → Data → Result PlanRule PlanFault
rule_in net place d = do
  name ← need (text_at (codes "switch") d) (Shape field.Switch place)
  switch ← need (switch_named net.names name) (UnknownSwitch place)
  priority ← need (whole_at (codes "priority") d) (Shape field.Priority place)
  in_port ← need (in_port_word (get (codes "in_port") d)) (Shape field.InPort place)
  vlan ← need (vlan_word (get (codes "vlan") d)) (Shape field.Vlan place)
  dst ← need (text_at (codes "dst") d) (Shape field.Dst place)
  out ← need (out_word (get (codes "out") d)) (Shape field.Out place)
  set ← need (set_word (get (codes "set") d)) (Shape field.Set place)
  strip ← need (strip_word (get (codes "strip") d)) (Shape field.Strip place)
  rule_of place (record { switch = record { 0 = switch }; priority = priority; in_port = in_port; vlan = vlan; dst = prefix_in dst; out = out; set = set; strip = strip })

-- ---- changes

-- what a change does
abbrev pub kind_of : List ℕ → Option ChangeKind
kind_of word =
    if bytes_eq word (codes "insert") then Some Insert else if bytes_eq word (codes "delete") then Some Delete else if bytes_eq word (codes "replace") then Some Replace else None

-- the change of this kind with the rule
abbrev pub change_of : ChangeKind → PlanRule → Change
change_of Insert r = change.Insert r.switch r.rule
change_of Delete r = change.Delete r.switch r.rule
change_of Replace r = change.Replace r.switch r.rule

-- a change as an object: what it does beside the members of its rule; the list is the member that it stands in
unfoldable pub object_change : Network → Field → ℕ → Data → Result Change PlanFault
object_change net list place d = do
  _ ← check (is_object d) (Shape list place)
  kind ← need (option_and_then kind_of (text_at (codes "do") d)) (Shape field.Do place)
  rule ← rule_in net place d
  Ok (change_of kind rule)

-- what a change does, and a whole number
abbrev pub kind_and_number : List Data → Option (ChangeKind × ℕ)
kind_and_number (a ∷ b ∷ []) = option_and_then (λ kind. option_map (λ n. (kind, n)) (whole_in b)) (option_and_then kind_of (as_str a))
kind_and_number other = None

-- a change that names its rule, one of these, by its number
unfoldable pub numbered_change : List PlanRule → Field → ℕ → Data → Result Change PlanFault
numbered_change rules list place d = do
  words ← need (option_and_then kind_and_number (list_in d)) (Shape list place)
  rule ← need (slice_get rules words.1) (BadIndex place)
  Ok (change_of words.0 rule)

-- a change, by the spelling of the format
abbrev pub change_in : Network → Spelling → Field → ℕ → Data → Result Change PlanFault
change_in net Objects list place d = object_change net list place d
change_in net (Numbers rules) list place d = numbered_change rules list place d

-- one change of a round, after these
unfoldable pub change_at : Network → Spelling → Field → ℕ → List Change → Data → Result (List Change) PlanFault
change_at net spelling list place before d = do
  _ ← check (nat_lt place 2200000) (TooMany list)
  change ← change_in net spelling list place d
  Ok (before ++ change ∷ [])

-- ---- rounds

-- a round whose first change has this number
unfoldable pub round_in : Network → Spelling → Field → ℕ → ℕ → Data → Result (List Change) PlanFault
round_in net spelling list place number d = do
  items ← need (list_in d) (Shape list place)
  in_turn (change_at net spelling list) number [] items

-- one round, after these, whose first change has this number
unfoldable pub round_at : Network → Spelling → Field → ℕ → ℕ → List (List Change) → Data → Result (List (List Change)) PlanFault
round_at net spelling list first place before d = do
  round ← round_in net spelling list place (first + sum_by length before) d
  Ok (before ++ round ∷ [])

-- the member with this name: at most so many rounds, whose first change has this number
unfoldable pub rounds_in : Network → Spelling → Field → ℕ → ℕ → Data → Result (List (List Change)) PlanFault
rounds_in net spelling list most first top = do
  items ← need (list_at (field_name list) top) (Shape list 0)
  _ ← check (nat_le (length items) most) (TooMany list)
  in_turn (round_at net spelling list first) 0 [] items

-- ---- the rules of format 2

-- one item of `rules`, after these
unfoldable pub rule_at : Network → ℕ → List PlanRule → Data → Result (List PlanRule) PlanFault
rule_at net place before d = do
  _ ← check (nat_lt place 2200000) (TooMany field.Rules)
  _ ← check (is_object d) (Shape field.Rules place)
  rule ← rule_in net place d
  Ok (before ++ rule ∷ [])

-- the member `rules`
unfoldable pub rules_in : Network → Data → Result (List PlanRule) PlanFault
rules_in net top = do
  items ← need (list_at (codes "rules") top) (Shape field.Rules 0)
  in_turn (rule_at net) 0 [] items
