use Rattle.std.proofs.Common.{◌≡◌, ◌∷◌, take, map}
use Rattle.std.specs.Prelude.{flat_map}
use Rattle.two_phase.proofs.switch_rules.SwitchRules.priorities.Given as goal

abbrev pub invariant-loop-rules : goal.invariant-loop-rules
invariant-loop-rules l = l.priorities.items ≡ l.first ∷ flat_map (λ rules. map (λ r. r.key.priority) rules.items) (take l.rules-index l.rules-items)
