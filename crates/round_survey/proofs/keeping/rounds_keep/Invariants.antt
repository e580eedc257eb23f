use Rattle.std.proofs.Common.{ℕ, ◌<◌}
use Rattle.std.specs.List.{AllByRecursion}
use Rattle.update_model.specs.Changes.{rule_of, round_after}
use Rattle.update_model.specs.declared.Change.{Change}
use Rattle.certificates.specs.Certified.{KeepsVlan}
use Rattle.round_survey.proofs.keeping.rounds_keep.Given as goal

abbrev pub invariant-loop-k : goal.invariant-loop-k
invariant-loop-k l = (j : ℕ) → j < l.k → AllByRecursion (λ (d : Change). KeepsVlan (rule_of d).action) (round_after j l.rounds)
