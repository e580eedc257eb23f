use Rattle.flow_rules.proofs.TableLaws.{table_replaced}
use Rattle.flow_rules.proofs.tables.Table.replace.Goals as goal

pub invariant_of-self : goal.invariant_of-self
invariant_of-self c = rw c.replace_in.ensures.items (record { distinct = table_replaced c.args.rule c.self.inside.entries.items c.self.invariant.distinct; indexed = tt })
