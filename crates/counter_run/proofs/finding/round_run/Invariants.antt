use Rattle.std.proofs.Common.{ℕ, ◌<◌}
use Rattle.dest_classes.specs.Classes.{IsClass}
use Rattle.dest_classes.specs.declared.Class.{Class}
use Rattle.counter_run.specs.Showing.{shown_rollout}
use Rattle.counter_run.specs.Explaining.{ClassBreaks}
use Rattle.counter_run.proofs.finding.round_run.Given as goal

abbrev pub invariant-loop-number : goal.invariant-loop-number
invariant-loop-number l = (n : ℕ) (class : Class) → n < l.number → IsClass l.classes n class → ¬ ClassBreaks (shown_rollout l.stage) l.duties.demands l.stage.round.number class
