use Rattle.flow_rules.proofs.ReplaceLaws.{table_in_turn}
use Rattle.flow_rules.proofs.tables.Table.replace_all.Goals as goal

pub invariant_of-self : goal.invariant_of-self
invariant_of-self c = rw c.replace_keys.ensures.items (record { distinct = table_in_turn c.args.others.now c.self.inside.entries.items c.self.invariant.distinct; indexed = tt })
