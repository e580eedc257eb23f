-- The better of two rules, for a search that keeps the best so far.
use Rattle.std.specs.Prelude.{◌≡◌, ℕ, ◌≤◌, nat_lt, cond, Bool, true, false, List, slice_get, Option, Some, None, IfSome}
use Rattle.std.specs.Option.{option_map_or}
use Rattle.flow_rules.specs.Patterns.{Header, covers}
use Rattle.flow_rules.specs.declared.rules.Rule.{Rule}

-- the best so far, or a later rule of greater priority
abbrev pub better_of : Option Rule → Rule → Option Rule
better_of None r = Some r
better_of (Some b) r = cond (nat_lt b.key.priority r.key.priority) (Some r) (Some b)

-- whether the rule at a position covers a packet; there is none past the end
abbrev pub covers_at : Header → List Rule → ℕ → Bool
covers_at h rules i = option_map_or (λ r. covers r.key.pattern h) (slice_get rules i) false

-- the priority of the rule at a position
abbrev pub priority_at : List Rule → ℕ → ℕ
priority_at rules i = option_map_or (λ r. r.key.priority) (slice_get rules i) 0

-- the rule at the one position counts before that at the other: it has more priority, or as much and comes first
pub record IsOver (rules : List Rule) (i j : ℕ) : Type 0 where
  pub above : priority_at rules j ≤ priority_at rules i
  pub first : priority_at rules j ≡ priority_at rules i → i ≤ j

-- the best position counts before this one, or this one's rule doesn't cover the packet
abbrev pub IsBeaten : Header → List Rule → Option ℕ → ℕ → Type 0
IsBeaten h rules best j = covers_at h rules j ≡ true → (i : ℕ) × (best ≡ Some i) × IsOver rules i j

-- the best position, if there is one, is that of a rule that covers the packet
abbrev pub IsHit : Header → List Rule → Option ℕ → Type 0
IsHit h rules best = IfSome best (λ i. covers_at h rules i ≡ true)
