-- The changes of one table by their kinds: the deletes, the replaces and the inserts.
use Rattle.std.specs.Prelude.{not, List, map, filter}
use Rattle.std.specs.List.{list_any}
use Rattle.flow_rules.specs.Patterns.{key_eq}
use Rattle.flow_rules.specs.declared.rules.Rule.{Rule}
use Rattle.update_model.specs.Changes.{rule_of}
use Rattle.update_model.specs.Mixtures.{is_insert, is_delete, is_replace}
use Rattle.update_model.specs.declared.Change.{Change}

-- the rules that the changes delete
abbrev pub deleted_rules : List Change → List Rule
deleted_rules changes = map rule_of (filter is_delete changes)

-- the rules that the changes put in the place of others
abbrev pub replacing_rules : List Change → List Rule
replacing_rules changes = map rule_of (filter is_replace changes)

-- the changes that insert
abbrev pub inserts : List Change → List Change
inserts changes = filter is_insert changes

-- the rules with other keys than these
abbrev pub rules_without : List Rule → List Rule → List Rule
rules_without gone rules = filter (λ q. not (list_any (λ r. key_eq r.key q.key) gone)) rules
