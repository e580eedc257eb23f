use Rattle.certificates.specs.Valid.{IsValidTable}
use Rattle.certificates.proofs.Chains.{AreUpTo}
use Rattle.certificates.proofs.validity.are_valid_tables.Given as goal

abbrev pub invariant-loop-table : goal.invariant-loop-table
invariant-loop-table l = AreUpTo IsValidTable l.tables l.table-index
