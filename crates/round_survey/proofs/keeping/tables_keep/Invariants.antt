use Rattle.std.proofs.Common.{◌≡◌, ℕ, ◌<◌, Some}
use Rattle.std.specs.Prelude.{slice_get}
use Rattle.std.specs.List.{AllByRecursion}
use Rattle.flow_rules.specs.Tables.{TableState}
use Rattle.flow_rules.specs.declared.rules.Rule.{Rule}
use Rattle.certificates.specs.Certified.{KeepsVlan}
use Rattle.round_survey.proofs.keeping.tables_keep.Given as goal

abbrev pub invariant-loop-i : goal.invariant-loop-i
invariant-loop-i l = (n : ℕ) (table : TableState) → n < l.i → slice_get l.tables n ≡ Some table → AllByRecursion (λ (r : Rule). KeepsVlan r.action) table.rules
