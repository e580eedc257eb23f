-- Rules of a table that others take the place of.
use Rattle.std.specs.Prelude.{cond, List, [], ◌∷◌, map}
use Rattle.flow_rules.specs.Patterns.{key_eq}
use Rattle.flow_rules.specs.declared.rules.Rule.{Rule}

-- the rules after each of the others in turn has taken the place of those with its key
abbrev pub replaced_in_turn : List Rule → List Rule → List Rule
replaced_in_turn [] rules = rules
replaced_in_turn (r ∷ others) rules = replaced_in_turn others (map (λ q. cond (key_eq q.key r.key) r q) rules)

-- what the others in turn put in the place of one rule
abbrev pub in_place_of : List Rule → Rule → Rule
in_place_of [] q = q
in_place_of (r ∷ others) q = in_place_of others (cond (key_eq q.key r.key) r q)
