use Rattle.std.proofs.Common.{◌≡◌, ℕ, ◌<◌, true, length, Some}
use Rattle.std.specs.Prelude.{slice_get}
use Rattle.dest_classes.specs.Classes.{IsClass}
use Rattle.dest_classes.specs.declared.Class.{Class}
use Rattle.counter_run.specs.Showing.{shown_rollout}
use Rattle.counter_run.specs.Explaining.{ClassBreaks}
use Rattle.counter_run.proofs.searching.mark_unchanged.Given as goal

abbrev pub invariant-loop-number : goal.invariant-loop-number
invariant-loop-number l = record {
  count : length l.good ≡ length l.initial.good;
  each : (n : ℕ) (class : Class) → n < l.number → IsClass l.classes n class → slice_get l.good n ≡ Some true → ¬ ClassBreaks (shown_rollout l.stage) l.duties.demands l.stage.round.number class;
}
