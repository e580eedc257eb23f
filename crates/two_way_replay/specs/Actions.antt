-- What becomes of the entries that changes name, entry by entry.
use Rattle.std.specs.Prelude.{◌≡◌, Option, None, Some, option_map, unwrap_or, List, [], ◌∷◌, map, length}
use Rattle.net_base.specs.declared.ids.SwitchId.{SwitchId}
use Rattle.flow_rules.specs.Tables.{rules_at, action_of}
use Rattle.flow_rules.specs.declared.rules.Action.{Action}
use Rattle.flow_rules.specs.declared.rules.Key.{Key}
use Rattle.flow_rules.specs.declared.rules.Rule.{Rule}
use Rattle.update_model.specs.Changes.{switch_of, rule_of}
use Rattle.update_model.specs.declared.Change.{Change}
use Rattle.update_model.specs.declared.Change.TheVariants.{Insert, Delete, Replace}
use Rattle.two_way_replay.specs.Entries.{action_named, tables_with_entry}

-- what a change makes of the action of the entry that it names, also where it doesn't apply
abbrev pub action_after : Change → Option Action → Option Action
action_after (Insert s r) action = Some (unwrap_or action r.action)
action_after (Delete s r) action = None
action_after (Replace s r) action = option_map (λ _. r.action) action

-- all tables after a change, as far as their entries go
abbrev pub entries_after_change : Change → List (List Rule) → List (List Rule)
entries_after_change c tables = tables_with_entry (switch_of c) (rule_of c).key (action_after c (action_named tables c)) tables

-- the same after these changes
abbrev pub entries_after_round : List Change → List (List Rule) → List (List Rule)
entries_after_round [] tables = tables
entries_after_round (c ∷ cs) tables = entries_after_round cs (entries_after_change c tables)

-- the actions that the changes of the rounds name, each in the entries before its round
abbrev pub actions_before : List (List Rule) → List (List Change) → List (List (Option Action))
actions_before tables [] = []
actions_before tables (round ∷ rounds) = map (action_named tables) round ∷ actions_before (entries_after_round round tables) rounds

-- the tables have the same entries, in whatever order
pub record HaveSameEntries (a b : List (List Rule)) : Type 0 where
  pub count : length a ≡ length b
  pub same : (s : SwitchId) (key : Key) → action_of key (rules_at a s) ≡ action_of key (rules_at b s)
