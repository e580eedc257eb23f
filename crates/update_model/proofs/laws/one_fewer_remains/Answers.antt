use Rattle.std.specs.Prelude.{List, []}
use Rattle.std.specs.List.{AllByRecursion}
use Rattle.net_base.proofs.ListLaws.{told_from_distinct}
use Rattle.net_base.proofs.MemberLaws.{each_get_or}
use Rattle.flow_rules.specs.Tables.{IsTable, rules_at}
use Rattle.flow_rules.specs.declared.rules.Rule.{Rule}
use Rattle.update_model.proofs.RemainingLaws.{AllUnique, remaining_shortens, remaining_made}
use Rattle.update_model.proofs.laws.one_fewer_remains.Goals as goal

unique_tables : (tables : List (List Rule)) → AllByRecursion IsTable tables → AllUnique tables
unique_tables tables are s = told_from_distinct (λ r. r.key) (rules_at tables s) (each_get_or IsTable tables s.0 [] are tt)

pub returns-clause-fewer : goal.returns-clause-fewer
returns-clause-fewer c = λ now new now_are new_are d i. remaining_shortens now new (unique_tables now now_are) (unique_tables new new_are) d i

pub returns-clause-ends : goal.returns-clause-ends
returns-clause-ends c = λ now new now_are new_are changes made. remaining_made new (unique_tables new new_are) now (unique_tables now now_are) changes made
