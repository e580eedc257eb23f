-- What is prepared of a switch and a round.
use Rattle.std.specs.Prelude.{◌≤◌, ℕ, List, [], ◌∷◌, map, Option, IsPermutation}
use Rattle.std.specs.List.{AllByRecursion}
use Rattle.net_base.specs.Members.{IsDistinct}
use Rattle.flow_rules.specs.Tables.{IsClear}
use Rattle.flow_rules.specs.declared.rules.Rule.{Rule}
use Rattle.update_model.specs.Changes.{rule_of, AppliesTo}
use Rattle.update_model.specs.Mixtures.{IsMixture}
use Rattle.update_model.specs.declared.Change.{Change}
use Rattle.round_mix.specs.Marks.{marked_rules}
use Rattle.round_mix.specs.declared.MarkedRule.{MarkedRule}

-- the marked rules of one switch in descending priority, if they are prepared, for how many there is room, and the address
-- that was aimed at since, if one was
pub record MixedState : Type 0 where
  pub prepared : Option (List MarkedRule)
  pub room : ℕ
  pub aimed : Option ℕ

-- good changes of one table: each applies to it, and no key is named twice
pub record AreGood (table : List Rule) (changes : List Change) : Type 0 where
  pub applies : AllByRecursion (AppliesTo table) changes
  pub distinct : IsDistinct (map (λ c. (rule_of c).key) changes)

-- every mixture is clear
abbrev pub AreClear : List Rule → List Change → Type 0
AreClear table changes = (mixed : List Rule) → IsMixture table changes mixed → IsClear mixed

-- priorities descend
abbrev pub IsFalling : List MarkedRule → Type 0
IsFalling [] = Unit {0}
IsFalling (m ∷ ms) = AllByRecursion (λ n. n.rule.key.priority ≤ m.rule.key.priority) ms × IsFalling ms

-- the marked rules of a table and good changes of it whose mixtures are all clear, in descending priority
pub record IsPrepared (table : List Rule) (changes : List Change) (marks : List MarkedRule) : Type 0 where
  pub good : AreGood table changes
  pub clear : AreClear table changes
  pub rules : IsPermutation (marked_rules table changes) marks
  pub falling : IsFalling marks
