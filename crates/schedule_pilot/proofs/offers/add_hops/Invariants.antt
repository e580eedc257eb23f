use Rattle.std.proofs.Common.{◌≡◌, ◌++◌, take, map}
use Rattle.update_model.specs.declared.Event.TheVariants as event
use Rattle.schedule_pilot.proofs.offers.add_hops.Given as goal

abbrev pub invariant-loop-i : goal.invariant-loop-i
invariant-loop-i l = l.offered.items ≡ l.initial.offered.items ++ map event.Hop (take l.i-index l.under_way)
