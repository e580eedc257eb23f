use Rattle.std.proofs.Common.{◌≡◌, take}
use Rattle.std.specs.Prelude.{flat_map}
use Rattle.two_phase.specs.Depths.{greatest}
use Rattle.two_phase.proofs.DeepLaws.{depths_in}
use Rattle.two_phase.proofs.deep_rules.DeepRules.greatest.Given as goal

abbrev pub invariant-loop-rules : goal.invariant-loop-rules
invariant-loop-rules l = l.greatest ≡ greatest (flat_map (λ rules. depths_in rules.items) (take l.rules-index l.rules-items))
