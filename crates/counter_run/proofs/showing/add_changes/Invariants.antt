use Rattle.std.proofs.Common.{◌≡◌, ◌++◌, map, take}
use Rattle.update_model.specs.declared.Event.TheVariants as event
use Rattle.counter_run.proofs.showing.add_changes.Given as goal

abbrev pub invariant-loop-i : goal.invariant-loop-i
invariant-loop-i l = l.events ≡ l.initial.events ++ map event.Change (take l.i-index l.numbers)
