use Rattle.std.proofs.Common.{◌≡◌, drop}
use Rattle.flow_rules.specs.Tables.{rules_of_all}
use Rattle.two_way_replay.specs.Actions.{entries_after_round}
use Rattle.two_way_replay.proofs.earlier.carry_round.Given as goal

abbrev pub invariant-loop-change : goal.invariant-loop-change
invariant-loop-change l = entries_after_round (drop l.change-index l.round) (rules_of_all l.tables) ≡ entries_after_round l.round (rules_of_all l.initial.tables)
