use Rattle.std.proofs.Common.{◌≡◌, ◌++◌, take, map}
use Rattle.two_phase.specs.SwitchRules.{change_by}
use Rattle.two_phase.proofs.switch_rules.add_changes.Given as goal

abbrev pub invariant-loop-rule : goal.invariant-loop-rule
invariant-loop-rule l = l.round.items ≡ l.initial.round.items ++ map (change_by l.step l.s) (take l.rule-index l.rules)
