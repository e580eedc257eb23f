use Rattle.std.proofs.Common.{◌≡◌, ◌+◌, ◌++◌, length}
use Rattle.update_model.specs.Remaining.{changes_between}
use Rattle.table_difference.specs.KeyOrder.{AreAscending}
use Rattle.table_difference.proofs.merging.add_between.Given as goal

abbrev pub invariant-loop-step : goal.invariant-loop-step
invariant-loop-step l = record {
  now_order : AreAscending l.now;
  new_order : AreAscending l.new;
  made : l.changes.items ++ changes_between l.switch l.now l.new ≡ l.initial.changes.items ++ changes_between l.switch l.initial.now l.initial.new;
}

abbrev pub decreases-loop-step : goal.decreases-loop-step
decreases-loop-step l = length l.now + length l.new
