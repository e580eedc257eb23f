-- The changes of a round, each with the rule that it names.
use Rattle.std.specs.Prelude.{◌≡◌, ℕ, Bool, true, false, List, map, slice_get, slice_set, Some}
use Rattle.std.specs.List.{AllByRecursion}
use Rattle.net_base.specs.Members.{IsIn, IsDistinct}
use Rattle.flow_rules.specs.Patterns.{key_eq}
use Rattle.flow_rules.specs.Same.{rule_eq}
use Rattle.flow_rules.specs.declared.rules.Rule.{Rule}
use Rattle.update_model.specs.Changes.{rule_of}
use Rattle.update_model.specs.declared.Change.{Change}
use Rattle.update_model.specs.declared.Change.TheVariants.{Insert, Delete, Replace}
use Rattle.round_mix.specs.Marks.{mark_by, marked_rule}
use Rattle.round_mix.specs.declared.Mark.{Mark}
use Rattle.round_mix.specs.declared.Mark.TheVariants.{Sure}
use Rattle.round_mix.specs.declared.MarkedRule.{MarkedRule}

-- whether a change names a rule: by its key, and a delete by its action too
abbrev pub names : Change → Rule → Bool
names (Insert s r) q = key_eq r.key q.key
names (Delete s r) q = rule_eq r q
names (Replace s r) q = key_eq r.key q.key

-- one of the rules is named by the change
abbrev pub IsNamed : List Rule → Change → Type 0
IsNamed rules c = (r : Rule) × IsIn r rules × (names c r ≡ true)

-- a rule with a mark
abbrev pub with_mark : Rule → Mark → MarkedRule
with_mark r m = record { rule = r; mark = m }

-- the change names none of the marked rules that are sure
abbrev pub IsUnnamed : Change → List MarkedRule → Type 0
IsUnnamed c marks = (m : MarkedRule) → IsIn m marks → m.mark ≡ Sure → names c m.rule ≡ false

-- the rule at the position is sure and named by the change
pub record IsPlaceOf (c : Change) (marks : List MarkedRule) (i : ℕ) : Type 0 where
  pub rule : Rule
  pub at : slice_get marks i ≡ Some (with_mark rule Sure)
  pub named : names c rule ≡ true

-- a rule that was sure and is named by the change has the change's mark now
pub record IsMarkedBy (c : Change) (old new : List MarkedRule) : Type 0 where
  pub place : ℕ
  pub rule : Rule
  pub at : slice_get old place ≡ Some (with_mark rule Sure)
  pub named : names c rule ≡ true
  pub is : new ≡ slice_set old place (with_mark rule (mark_by c))

-- the rules marked by changes, of which each names one of them and no two have one key
pub record AreMarked (rules : List Rule) (changes : List Change) (marks : List MarkedRule) : Type 0 where
  pub marks_are : marks ≡ map (marked_rule changes) rules
  pub distinct : IsDistinct (map (λ c. (rule_of c).key) changes)
  pub named : AllByRecursion (IsNamed rules) changes
