use Rattle.flow_rules.proofs.TableLaws.{table_filter}
use Rattle.flow_rules.proofs.tables.Table.delete_all.Goals as goal

pub invariant_of-self : goal.invariant_of-self
invariant_of-self c = rw c.delete_keys.ensures.items (record { distinct = table_filter _ c.self.inside.entries.items c.self.invariant.distinct; indexed = tt })
