-- What is kept of all tables.
use Rattle.std.proofs.Common.{◌≡◌, ℕ, suc, List, [], ◌∷◌, Some, refl}
use Rattle.std.specs.Prelude.{slice_get}
use Rattle.std.specs.List.{AllByRecursion}
use Rattle.flow_rules.specs.Tables.{TableState, rules_of_all}
use Rattle.flow_rules.specs.declared.rules.Rule.{Rule}
use Rattle.certificates.specs.Certified.{KeepsVlan}
use Rattle.mixed_walks.specs.Walks.{TablesKeepVlans}

-- where each table keeps VLANs all do
pub tables_from : (tables : List TableState) → ((n : ℕ) (table : TableState) → slice_get tables n ≡ Some table → AllByRecursion (λ (r : Rule). KeepsVlan r.action) table.rules)
    → TablesKeepVlans (rules_of_all tables)
tables_from [] each = tt
tables_from (table ∷ tables) each = (each 0 table refl, tables_from tables (λ n other at. each (suc n) other at))
