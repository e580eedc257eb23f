-- The rules of a switch during a round, each with a mark that says in which mixtures it stands.
use Rattle.std.specs.Prelude.{List, [], ◌∷◌, ◌++◌, map, find, Option}
use Rattle.std.specs.Option.{option_map_or}
use Rattle.flow_rules.specs.Patterns.{key_eq}
use Rattle.flow_rules.specs.declared.rules.Rule.{Rule}
use Rattle.update_model.specs.Changes.{rule_of}
use Rattle.update_model.specs.declared.Change.{Change}
use Rattle.update_model.specs.declared.Change.TheVariants.{Insert, Delete, Replace}
use Rattle.round_mix.specs.declared.Mark.{Mark}
use Rattle.round_mix.specs.declared.Mark.TheVariants.{Sure, Possible, Replaced}
use Rattle.round_mix.specs.declared.MarkedRule.{MarkedRule}

-- the mark of the rule that a change names
abbrev pub mark_by : Change → Mark
mark_by (Insert s r) = Possible
mark_by (Delete s r) = Possible
mark_by (Replace s r) = Replaced r.action

-- the change that names the rule's key, where one does
abbrev pub change_of : List Change → Rule → Option Change
change_of changes r = find (λ c. key_eq (rule_of c).key r.key) changes

-- a rule with its mark: it is sure where no change names its key
abbrev pub marked_rule : List Change → Rule → MarkedRule
marked_rule changes r = record { rule = r; mark = option_map_or mark_by (change_of changes r) Sure }

-- the rules that the changes insert
abbrev pub inserted_rules : List Change → List Rule
inserted_rules [] = []
inserted_rules (Insert s r ∷ cs) = r ∷ inserted_rules cs
inserted_rules (Delete s r ∷ cs) = inserted_rules cs
inserted_rules (Replace s r ∷ cs) = inserted_rules cs

-- the table's rules followed by the inserted ones
abbrev pub all_rules : List Rule → List Change → List Rule
all_rules table changes = table ++ inserted_rules changes

-- all of them, marked
abbrev pub marked_rules : List Rule → List Change → List MarkedRule
marked_rules table changes = map (marked_rule changes) (all_rules table changes)

-- the rules of marked rules, without their marks
abbrev pub rules_of : List MarkedRule → List Rule
rules_of marks = map (λ m. m.rule) marks
