-- A table of a configuration, lent to be changed.
use Rattle.std.specs.Prelude.{ℕ, List, slice_set}
use Rattle.std.specs.Borrow.{Lends, MutBor, Fml}
use Rattle.flow_rules.specs.Tables.{TableState}
use Rattle.flow_rules.specs.contracts.configs.Config as config
use Rattle.flow_rules.specs.contracts.tables.Table as table

-- what is last left behind the reference stands at the switch's place
abbrev pub LendsTable : MutBor (List TableState) → ℕ → MutBor TableState → Fml
LendsTable tables s r = Lends config.the_row table.the_row tables r (slice_set tables.now s)
