-- Lists of rules as they grow use by use, for private clauses.
use Rattle.std.specs.Prelude.{List, [], ◌∷◌, ◌++◌, if◌then◌else◌, fold}
use Rattle.std.specs.List.{list_any}
use Rattle.plan_text.specs.PlanText.{plan_rule_eq}
use Rattle.plan_format.specs.declared.rules.PlanRule.{PlanRule}

-- the list with one use more
abbrev pub with_use : List PlanRule → PlanRule → List PlanRule
with_use rules p = if list_any (plan_rule_eq p) rules then rules else rules ++ p ∷ []

-- the list with these uses more
abbrev pub with_uses : List PlanRule → List PlanRule → List PlanRule
with_uses rules ps = fold with_use rules ps
