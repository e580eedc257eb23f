use Rattle.std.proofs.Common.{◌≡◌, ◌++◌, drop}
use Rattle.outcome_changes.specs.Trials.{takes, numbers_where}
use Rattle.outcome_changes.proofs.trying.Trial.numbers.Given as goal

abbrev pub invariant-loop-i : goal.invariant-loop-i
invariant-loop-i l = l.numbers ++ numbers_where l.i (takes l.self) (drop l.i l.round) ≡ numbers_where 0 (takes l.self) l.round
