use Rattle.std.proofs.Common.{take, map}
use Rattle.update_model.specs.States.{IsEnabled}
use Rattle.update_model.specs.declared.Event.TheVariants as event
use Rattle.schedule_pilot.specs.Agendas.{AddsThose}
use Rattle.schedule_pilot.proofs.offers.add_changes.Given as goal

abbrev pub invariant-loop-i : goal.invariant-loop-i
invariant-loop-i l =
    AddsThose (IsEnabled l.world.net l.world.rounds l.world.state) (map event.Change (take l.i-index l.pending)) l.initial.offered.items l.offered.items
