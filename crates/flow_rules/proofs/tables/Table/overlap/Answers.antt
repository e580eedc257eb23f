use Rattle.std.proofs.Common.{◌↔◌, subst, IsNone}
use Rattle.flow_rules.specs.Tables.{TableState, IsClear}
use Rattle.flow_rules.proofs.ClashLaws.{none_is_clear}
use Rattle.flow_rules.proofs.tables.Table.overlap.Goals as goal

pub returns-clause-clear : goal.returns-clause-clear
returns-clause-clear c =
    subst (λ (t : TableState). IsNone c.least_clash.result ↔ IsClear t.rules) c.self.view_is
    (none_is_clear c.self.inside.entries.items c.least_clash.result c.self.invariant.distinct (rw (← c.deref.ensures.value) c.least_clash.ensures))
