use Rattle.std.proofs.Common.{◌≡◌, ◌++◌, drop}
use Rattle.flow_rules.specs.Tables.{rules_of_all}
use Rattle.two_way_replay.specs.Actions.{actions_before}
use Rattle.two_way_replay.proofs.earlier.EarlierActions.make.Given as goal

abbrev pub invariant-loop-k : goal.invariant-loop-k
invariant-loop-k l = l.earlier ++ actions_before (rules_of_all l.tables) (drop l.k l.rounds) ≡ actions_before (rules_of_all l.old) l.rounds
