-- The changes that take a round back.
use Rattle.std.specs.Prelude.{List, [], ◌∷◌, ◌++◌, find, unwrap_or}
use Rattle.flow_rules.specs.Patterns.{key_eq}
use Rattle.flow_rules.specs.Tables.{rules_at}
use Rattle.flow_rules.specs.declared.rules.Key.{Key}
use Rattle.flow_rules.specs.declared.rules.Rule.{Rule}
use Rattle.update_model.specs.Changes.{switch_of}
use Rattle.update_model.specs.declared.Change.{Change}
use Rattle.update_model.specs.declared.Change.TheVariants.{Insert, Delete, Replace}

-- the rule that has the key in a table; the other one where none has
abbrev pub rule_with : List Rule → Key → Rule → Rule
rule_with rules key other = unwrap_or (find (λ q. key_eq q.key key) rules) other

-- the change that takes a change back, in a table that had these rules before the round: an insert is deleted, what was deleted is inserted, and a replaced entry gets the action that it had
abbrev pub inverse_of : List Rule → Change → Change
inverse_of before (Insert s r) = Delete s r
inverse_of before (Delete s r) = Insert s r
inverse_of before (Replace s r) = Replace s (rule_with before r.key r)

-- the inverse of a round that was begun over these tables: the inverses of its changes, in the opposite order
abbrev pub inverse_round : List (List Rule) → List Change → List Change
inverse_round tables [] = []
inverse_round tables (c ∷ changes) = inverse_round tables changes ++ inverse_of (rules_at tables (switch_of c)) c ∷ []
