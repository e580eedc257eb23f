-- Entries of a table that are again what they were.
use Rattle.std.specs.Prelude.{Option, None, Some, is_some, not, cond, List, [], ◌∷◌, ◌++◌, map, filter, slice_set}
use Rattle.net_base.specs.declared.ids.SwitchId.{SwitchId}
use Rattle.flow_rules.specs.Patterns.{key_eq}
use Rattle.flow_rules.specs.Tables.{rules_at, action_of}
use Rattle.flow_rules.specs.declared.rules.Action.{Action}
use Rattle.flow_rules.specs.declared.rules.Key.{Key}
use Rattle.flow_rules.specs.declared.rules.Rule.{Rule}
use Rattle.update_model.specs.Changes.{switch_of, rule_of, tables_after}
use Rattle.update_model.specs.declared.Change.{Change}

-- the rules after the entry of a key has this action: in its place, or behind all where there was none; or after it is gone
abbrev pub with_entry : Key → Option Action → List Rule → List Rule
with_entry key None rules = filter (λ q. not (key_eq q.key key)) rules
with_entry key (Some a) rules =
    cond (is_some (action_of key rules)) (map (λ q. cond (key_eq q.key key) (record { key = key; action = a }) q) rules) (rules ++ record { key = key; action = a } ∷ [])

-- all tables after that at a switch
abbrev pub tables_with_entry : SwitchId → Key → Option Action → List (List Rule) → List (List Rule)
tables_with_entry s key action tables = slice_set tables s.0 (with_entry key action (rules_at tables s))

-- the action that the entry that a change names has in tables; none where there is no such entry
abbrev pub action_named : List (List Rule) → Change → Option Action
action_named tables c = action_of (rule_of c).key (rules_at tables (switch_of c))

-- the actions of the entries that the changes of the rounds name, each in the tables before its round
abbrev pub earlier_actions : List (List Rule) → List (List Change) → List (List (Option Action))
earlier_actions tables [] = []
earlier_actions tables (round ∷ rounds) = map (action_named tables) round ∷ earlier_actions (tables_after round tables) rounds
