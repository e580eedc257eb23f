use Rattle.std.proofs.Common.{◌≡◌, ◌++◌, map, take}
use Rattle.std.specs.Prelude.{◌==◌, filter}
use Rattle.two_phase.specs.SwitchRules.{change_by}
use Rattle.two_phase.proofs.deep_rules.add_changes_at.Given as goal

abbrev pub invariant-loop-rule : goal.invariant-loop-rule
invariant-loop-rule l = l.round.items ≡ l.initial.round.items ++ map (λ d. change_by l.step l.s d.rule) (filter (λ d. d.depth == l.depth) (take l.rule-index l.rules))
