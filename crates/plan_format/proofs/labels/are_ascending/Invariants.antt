use Rattle.std.proofs.Common.{◌≡◌, drop}
use Rattle.std.specs.Prelude.{◌-◌}
use Rattle.plan_format.specs.Evidence.{ascends, label_before}
use Rattle.plan_format.proofs.labels.are_ascending.Given as goal

abbrev pub invariant-loop-k : goal.invariant-loop-k
invariant-loop-k l = ascends label_before (drop (l.k - 1) l.labels) ≡ ascends label_before l.labels
