use Rattle.std.proofs.Common.{◌≡◌, ◌++◌, map}
use Rattle.update_model.specs.declared.Event.TheVariants as event
use Rattle.net_base.specs.Numbers.{numbers_from}
use Rattle.counter_run.proofs.showing.add_every.Given as goal

abbrev pub invariant-loop-i : goal.invariant-loop-i
invariant-loop-i l = l.events ≡ l.initial.events ++ map event.Change (numbers_from 0 l.i)
