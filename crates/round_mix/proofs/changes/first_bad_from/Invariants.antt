use Rattle.std.proofs.Common.{take}
use Rattle.round_mix.specs.Prepared.{AreGood}
use Rattle.round_mix.proofs.changes.first_bad_from.Given as goal

abbrev pub invariant-loop-i : goal.invariant-loop-i
invariant-loop-i l = AreGood l.table.rules (take l.i l.changes)
