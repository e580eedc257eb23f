use Rattle.round_tables.specs.Loading.{IsOutsideTo}
use Rattle.round_tables.proofs.loading.first_outside.Given as goal

abbrev pub invariant-loop-i : goal.invariant-loop-i
invariant-loop-i l = IsOutsideTo l.count l.round l.i l.found
