use Rattle.std.proofs.Common.{◌≡◌}
use Rattle.round_tables.proofs.filling.index_all.Given as goal

abbrev pub invariant-loop-i : goal.invariant-loop-i
invariant-loop-i l = l.mixes ≡ l.initial.mixes
