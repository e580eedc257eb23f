use Rattle.std.proofs.Common.{ℕ, ◌<◌}
use Rattle.std.specs.List.{AllByRecursion}
use Rattle.update_model.specs.Changes.{round_after}
use Rattle.update_model.specs.Ranges.{IsPlanChange}
use Rattle.certificates.proofs.validity.are_plan_rounds.Given as goal

abbrev pub invariant-loop-k : goal.invariant-loop-k
invariant-loop-k l = (j : ℕ) → j < l.k → AllByRecursion (IsPlanChange l.net) (round_after j l.rounds)
