use Rattle.std.proofs.Common.{rules}
use Rattle.flow_stats.proofs.IndexLaws.{none_marked}
use Rattle.flow_stats.proofs.read.begin.Goals as goal

pub returns-clause-kept : goal.returns-clause-kept
returns-clause-kept c = record {
  tables = search rules;
  index = none_marked _ _ _ c.in_ok-config.ensures.tables c.new.ensures;
  progress = search rules;
  entries = search rules;
}
