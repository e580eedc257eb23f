use Rattle.std.proofs.Common.{ap, subst, ◌<◌, ◌≡◌, List}
use Rattle.std.specs.Prelude.{IfNone, IfSome}
use Rattle.net_base.specs.declared.ids.SwitchId.{SwitchId}
use Rattle.flow_rules.specs.Tables.{TableState}
use Rattle.round_tables.specs.Ends.{AreSameAt}
use Rattle.round_tables.specs.PreparedTables.{PreparedState}
use Rattle.round_tables.proofs.prepared.PreparedTables.first_difference.Goals as goal

tables_are : (c : goal.After-difference) → c.self.inside.tables ≡ c.args.self.now.tables
tables_are c = ap (λ (p : PreparedState). p.tables) c.self.view_is

pub returns-clause-none : goal.returns-clause-none
returns-clause-none c =
    subst (λ (ts : List TableState). IfNone c.difference.result ((s : SwitchId) → AreSameAt ts c.args.config.now s)) (tables_are c) c.difference.ensures.none

pub returns-clause-some : goal.returns-clause-some
returns-clause-some c =
    subst (λ (ts : List TableState). IfSome c.difference.result (λ s. ¬ AreSameAt ts c.args.config.now s)) (tables_are c) c.difference.ensures.some

pub returns-clause-below : goal.returns-clause-below
returns-clause-below c =
    subst (λ (ts : List TableState). IfSome c.difference.result (λ s. (t : SwitchId) → t.0 < s.0 → AreSameAt ts c.args.config.now t)) (tables_are c) c.difference.ensures.below
