use Rattle.std.proofs.Common.{◌≡◌, ◌++◌, map, drop}
use Rattle.flow_rules.specs.Tables.{rules_of_all}
use Rattle.two_way_replay.specs.Entries.{action_named}
use Rattle.two_way_replay.proofs.earlier.named_actions.Given as goal

abbrev pub invariant-loop-change : goal.invariant-loop-change
invariant-loop-change l =
    l.actions.items ++ map (action_named (rules_of_all l.tables)) (drop l.change-index l.round) ≡ map (action_named (rules_of_all l.tables)) l.round
