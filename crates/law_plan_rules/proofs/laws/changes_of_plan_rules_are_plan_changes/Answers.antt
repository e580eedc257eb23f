use Rattle.law_plan_rules.proofs.UserRules.{change_plan, rule_of_plan}
use Rattle.law_plan_rules.proofs.laws.changes_of_plan_rules_are_plan_changes.Goals as goal

pub returns-clause-change : goal.returns-clause-change
returns-clause-change c = change_plan

pub returns-clause-rule : goal.returns-clause-rule
returns-clause-rule c = rule_of_plan
