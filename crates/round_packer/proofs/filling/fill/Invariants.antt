use Rattle.std.proofs.Common.{◌≤◌, List, drop, length}
use Rattle.std.specs.List.{AllByRecursion}
use Rattle.flow_rules.specs.declared.rules.Rule.{Rule}
use Rattle.update_model.specs.declared.Change.{Change}
use Rattle.round_packer.specs.Filling.{IsFilling, HasFailed}
use Rattle.round_packer.proofs.FillLaws.{AreGone}
use Rattle.round_packer.proofs.filling.fill.Given as goal

abbrev pub invariant-loop-change : goal.invariant-loop-change
invariant-loop-change l = record {
  within : l.place ≤ length l.left.failed.now;
  gone : (tables : List (List Rule)) (round : List Change)
      → IsFilling l.goal tables round l.fn.trial l.fn.watch.came.items l.fn.looked
      → AllByRecursion (HasFailed l.goal tables round) l.left.failed.now
      → AreGone l.goal tables round l.left.changes.now l.left.failed.now (drop l.change-index l.left.changes.now) l.trial l.watch.came.items l.looked
      l.failures.items;
}
