-- The search for two rules that clash.
use Rattle.std.specs.Prelude.{ℕ, ◌<◌, List}
use Rattle.flow_rules.specs.Overlaps.{IsClashAt}
use Rattle.flow_rules.specs.declared.rules.Rule.{Rule}

-- the rule at the first position clashes with none after it and before the limit
abbrev pub IsFreeUpTo : List Rule → ℕ → ℕ → Type 0
IsFreeUpTo rules i limit = (j : ℕ) → i < j → j < limit → ¬ IsClashAt rules i j

-- the rule at the position clashes with none after it
abbrev pub IsFree : List Rule → ℕ → Type 0
IsFree rules i = (j : ℕ) → i < j → ¬ IsClashAt rules i j

-- the first rule after the one at the position with which it clashes
pub record IsFirstAfter (rules : List Rule) (i j : ℕ) : Type 0 where
  pub ordered : i < j
  pub clash : IsClashAt rules i j
  pub first : IsFreeUpTo rules i j
