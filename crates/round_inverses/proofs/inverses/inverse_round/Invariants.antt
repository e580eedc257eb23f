use Rattle.std.proofs.Common.{◌≡◌, ◌≤◌, length, drop}
use Rattle.flow_rules.specs.Tables.{rules_of_all}
use Rattle.law_two_way_runs.specs.Inverse.{inverse_round}
use Rattle.round_inverses.proofs.inverses.inverse_round.Given as goal

abbrev pub invariant-loop-left : goal.invariant-loop-left
invariant-loop-left l = record {
  within : l.left ≤ length l.round;
  inverse : l.inverse.items ≡ inverse_round (rules_of_all l.tables) (drop l.left l.round);
}

abbrev pub decreases-loop-left : goal.decreases-loop-left
decreases-loop-left l = l.left
