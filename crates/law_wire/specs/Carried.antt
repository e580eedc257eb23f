-- What a flow message does to a table, whatever stands there (OpenFlow 1.0.0, section 4.6: the strict commands name an entry by its key).
use Rattle.std.specs.Prelude.{not, cond, if◌then◌else◌, Bool, List, [], ◌∷◌, ◌++◌, map, filter}
use Rattle.std.specs.List.{list_any}
use Rattle.flow_rules.specs.Patterns.{key_eq}
use Rattle.flow_rules.specs.declared.rules.Key.{Key}
use Rattle.flow_rules.specs.declared.rules.Rule.{Rule}
use Rattle.openflow10.specs.declared.Verb.{Verb}
use Rattle.openflow10.specs.declared.Verb.TheVariants.{Add, Modify, Remove}
use Rattle.openflow10.specs.declared.FlowMod.{FlowMod}

-- whether a rule has the key
abbrev pub has_rule : Key → List Rule → Bool
has_rule key rules = list_any (λ q. key_eq q.key key) rules

-- a rule in the place of the one with its key, or behind all where there is none
abbrev pub placed : Rule → List Rule → List Rule
placed r rules = if has_rule r.key rules then map (λ q. cond (key_eq q.key r.key) r q) rules else rules ++ r ∷ []

-- ADD and MODIFY_STRICT place a rule with the action; DELETE_STRICT takes the rule of the key away
abbrev pub carried_by : Verb → Key → List Rule → List Rule
carried_by (Add action) key rules = placed (record { key = key; action = action }) rules
carried_by (Modify action) key rules = placed (record { key = key; action = action }) rules
carried_by Remove key rules = filter (λ q. not (key_eq q.key key)) rules

-- a table after a flow message is carried out
abbrev pub carried : FlowMod → List Rule → List Rule
carried m rules = carried_by m.verb m.key rules
