-- Changes of tables, and rounds of them.
use Rattle.std.specs.Prelude.{ℕ, zero, suc, ◌-◌, ◌<◌, ◌==◌, not, cond, List, [], ◌∷◌, ◌++◌, length, map, flat_map, filter, slice_set, slice_index_or}
use Rattle.std.specs.List.{AllByRecursion}
use Rattle.net_base.specs.Blocks.{Block}
use Rattle.net_base.specs.Members.{IsIn, IsDistinct}
use Rattle.net_base.specs.declared.ids.SwitchId.{SwitchId}
use Rattle.flow_rules.specs.Patterns.{key_eq}
use Rattle.flow_rules.specs.Tables.{rules_at}
use Rattle.flow_rules.specs.declared.rules.Key.{Key}
use Rattle.flow_rules.specs.declared.rules.Rule.{Rule}
use Rattle.update_model.specs.declared.Change.{Change}
use Rattle.update_model.specs.declared.Change.TheVariants.{Insert, Delete, Replace}

-- the switch of a change
abbrev pub switch_of : Change → SwitchId
switch_of (Insert s r) = s
switch_of (Delete s r) = s
switch_of (Replace s r) = s

-- the rule of a change
abbrev pub rule_of : Change → Rule
rule_of (Insert s r) = r
rule_of (Delete s r) = r
rule_of (Replace s r) = r

-- an entry of a table, by its switch and its key
pub record EntryName : Type 0 where
  pub switch : SwitchId
  pub key : Key

-- the entry that a change names
abbrev pub entry_named : Change → EntryName
entry_named c = record { switch = switch_of c; key = (rule_of c).key }

-- a change applies to the rules of its switch: an insert where its key is absent, a delete where its rule is present,
-- a replace where its key is present
abbrev pub AppliesTo : List Rule → Change → Type 0
AppliesTo rules (Insert s r) = ¬ IsIn r.key (map (λ q. q.key) rules)
AppliesTo rules (Delete s r) = IsIn r rules
AppliesTo rules (Replace s r) = IsIn r.key (map (λ q. q.key) rules)

-- a change applies to the tables: there is its switch, and it applies to the rules there
abbrev pub Applies : List (List Rule) → Change → Type 0
Applies tables c = ((switch_of c).0 < length tables) × AppliesTo (rules_at tables (switch_of c)) c

-- the rules of the change's switch after it
abbrev pub rules_after_change : Change → List Rule → List Rule
rules_after_change (Insert s r) rules = rules ++ r ∷ []
rules_after_change (Delete s r) rules = filter (λ q. not (key_eq q.key r.key)) rules
rules_after_change (Replace s r) rules = map (λ q. cond (key_eq q.key r.key) r q) rules

-- for how many more rules the change's table has room after it
abbrev pub spare_after_change : Change → ℕ → ℕ
spare_after_change (Insert s r) spare = spare - 1
spare_after_change (Delete s r) spare = suc spare
spare_after_change (Replace s r) spare = spare

-- the rules of a switch after these changes there
abbrev pub rules_after : List Change → List Rule → List Rule
rules_after [] rules = rules
rules_after (c ∷ cs) rules = rules_after cs (rules_after_change c rules)

-- all tables after a change
abbrev pub tables_after_change : Change → List (List Rule) → List (List Rule)
tables_after_change c tables = slice_set tables (switch_of c).0 (rules_after_change c (rules_at tables (switch_of c)))

-- all tables after these changes
abbrev pub tables_after : List Change → List (List Rule) → List (List Rule)
tables_after [] tables = tables
tables_after (c ∷ cs) tables = tables_after cs (tables_after_change c tables)

-- the changes of a round at a switch
abbrev pub changes_at : SwitchId → List Change → List Change
changes_at s changes = filter (λ c. (switch_of c).0 == s.0) changes

-- the round after the first k rounds; empty where there is none
abbrev pub round_after : ℕ → List (List Change) → List Change
round_after k rounds = slice_index_or rounds k []

-- all tables after the first k rounds
abbrev pub settled_tables : List (List Change) → ℕ → List (List Rule) → List (List Rule)
settled_tables [] k tables = tables
settled_tables (round ∷ rounds) zero tables = tables
settled_tables (round ∷ rounds) (suc k) tables = settled_tables rounds k (tables_after round tables)

-- a good round: each change applies to the tables before it, and no entry is named twice
pub record IsGoodRound (tables : List (List Rule)) (round : List Change) : Type 0 where
  pub applies : AllByRecursion (Applies tables) round
  pub distinct : IsDistinct (map entry_named round)

-- the prefixes of all changes of rounds
abbrev pub round_blocks : List (List Change) → List Block
round_blocks rounds = flat_map (λ round. map (λ c. (rule_of c).key.pattern.dst) round) rounds

-- the rounds with one more change in the last
abbrev pub with_change : Change → List (List Change) → List (List Change)
with_change c [] = []
with_change c (round ∷ []) = (round ++ c ∷ []) ∷ []
with_change c (round ∷ next ∷ rest) = round ∷ with_change c (next ∷ rest)
