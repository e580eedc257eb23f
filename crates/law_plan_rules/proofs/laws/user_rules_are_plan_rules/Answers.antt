use Rattle.law_plan_rules.proofs.UserRules.{rule_plan, tables_plan}
use Rattle.law_plan_rules.proofs.laws.user_rules_are_plan_rules.Goals as goal

pub returns-clause-rule : goal.returns-clause-rule
returns-clause-rule c = λ net s r is. rule_plan net is s r

pub returns-clause-tables : goal.returns-clause-tables
returns-clause-tables c = λ net tables is. tables_plan net is tables
