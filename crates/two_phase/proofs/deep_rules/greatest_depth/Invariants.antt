use Rattle.std.proofs.Common.{◌≡◌, ◌∷◌, map, take}
use Rattle.two_phase.specs.Depths.{greatest}
use Rattle.two_phase.proofs.deep_rules.greatest_depth.Given as goal

abbrev pub invariant-loop-rule : goal.invariant-loop-rule
invariant-loop-rule l = l.greatest ≡ greatest (l.depth ∷ map (λ d. d.depth) (take l.rule-index l.rules))
