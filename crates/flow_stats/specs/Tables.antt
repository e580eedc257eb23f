-- The tables that entries make, one after the other.
use Rattle.std.specs.Prelude.{ℕ, List, [], ◌∷◌, ◌++◌, slice_set, not, nat_lt, Result, Ok}
use Rattle.std.specs.List.{list_any}
use Rattle.net_base.specs.declared.ids.SwitchId.{SwitchId}
use Rattle.net_base.specs.Reading.{◌>>=◌, check}
use Rattle.topology.specs.Networks.{Network}
use Rattle.flow_rules.specs.Patterns.{key_eq}
use Rattle.flow_rules.specs.Overlaps.{keys_clash}
use Rattle.flow_rules.specs.Tables.{rules_at}
use Rattle.flow_rules.specs.declared.rules.Rule.{Rule}
use Rattle.flow_stats.specs.Profile.{rule_in}
use Rattle.flow_stats.specs.declared.entries.Entry.{Entry}
use Rattle.flow_stats.specs.declared.fault.StatsFault.{StatsFault}
use Rattle.flow_stats.specs.declared.fault.StatsFault.TheVariants.{KeyTwice, Overlap, TooMany}

-- the rules of a switch with one more, whose key is new and which clashes with none
unfoldable pub rules_with : ℕ → List Rule → Rule → Result (List Rule) StatsFault
rules_with entry rules rule = do
  _ ← check (not (list_any (λ q. key_eq q.key rule.key) rules)) (KeyTwice entry)
  _ ← check (not (list_any (λ q. keys_clash q.key rule.key) rules)) (Overlap entry)
  Ok (rules ++ rule ∷ [])

-- the tables with one rule more at the switch
unfoldable pub with_rule : ℕ → List (List Rule) → SwitchId → Rule → Result (List (List Rule)) StatsFault
with_rule entry tables s rule = do
  rules ← rules_with entry (rules_at tables s) rule
  Ok (slice_set tables s.0 rules)

-- the tables with the rule of an entry of the switch, of which there are at most 2048 in a file
unfoldable pub entry_at : Network → SwitchId → ℕ → List (List Rule) → Entry → Result (List (List Rule)) StatsFault
entry_at net s entry tables e = do
  _ ← check (nat_lt entry 2048) TooMany
  rule ← rule_in net entry s e
  with_rule entry tables s rule
