-- The nearest rule that covers a packet, at a position or behind it.
use Rattle.std.specs.Prelude.{◌≡◌, ℕ, ◌≤◌, Bool, true, false, List, map, reverse, slice_get, Option, Some, IfSome}
use Rattle.std.specs.Option.{option_map_or}
use Rattle.flow_rules.specs.Patterns.{Header, covers}
use Rattle.flow_rules.specs.declared.rules.Pattern.{Pattern}
use Rattle.round_mix.specs.declared.MarkedRule.{MarkedRule}

-- the patterns of marked rules
abbrev pub patterns_in : List MarkedRule → List Pattern
patterns_in marks = map (λ m. m.rule.key.pattern) marks

-- from the last to the first
abbrev pub patterns_back : List MarkedRule → List Pattern
patterns_back marks = reverse (patterns_in marks)

-- whether the marked rule at the position covers the packet; there is none past the end
abbrev pub covers_there : Header → List MarkedRule → ℕ → Bool
covers_there h marks i = option_map_or (λ m. covers m.rule.key.pattern h) (slice_get marks i) false

-- the position found, if there is one, is from the first on that of a rule that covers the packet
abbrev pub IsMet : Header → List MarkedRule → ℕ → Option ℕ → Type 0
IsMet h marks from found = IfSome found (λ i. (from ≤ i) × (covers_there h marks i ≡ true))

-- the position found is no further than this one, or this one's rule doesn't cover the packet
abbrev pub IsNear : Header → List MarkedRule → ℕ → Option ℕ → ℕ → Type 0
IsNear h marks from found j = from ≤ j → covers_there h marks j ≡ true → (i : ℕ) × (found ≡ Some i) × (i ≤ j)
