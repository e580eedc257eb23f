use Rattle.std.proofs.Common.{◌≡◌, ℕ, ◌<◌, List, length}
use Rattle.flow_rules.specs.declared.rules.Rule.{Rule}
use Rattle.dest_classes.specs.Classes.{IsClass}
use Rattle.dest_classes.specs.declared.Class.{Class}
use Rattle.update_model.specs.declared.Change.{Change}
use Rattle.round_judge.specs.Visits.{marks_at}
use Rattle.round_judge.specs.Goals.{HoldsLastOf}
use Rattle.round_packer.specs.Kept.{ArePreparedFor, IsKeptSafe}
use Rattle.round_packer.proofs.judging.all_safe.Given as goal

abbrev pub invariant-loop-number : goal.invariant-loop-number
invariant-loop-number l = record {
  count : length l.watch.came.items ≡ length l.fn.watch.came.items;
  last : HoldsLastOf l.goal l.last;
  kept : (tables : List (List Rule)) (changes : List Change) → ArePreparedFor l.goal.net l.mixes tables changes → (n : ℕ) (class : Class) → n < l.number
      → IsClass l.goal.classes n class
      → IsKeptSafe l.goal tables changes class (marks_at l.watch.came.items n);
}
