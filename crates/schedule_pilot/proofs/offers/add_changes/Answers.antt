use Rattle.std.proofs.Common.{add-one}
use Rattle.update_model.specs.States.{IsEnabled}
use Rattle.update_model.specs.declared.Event.TheVariants as event
use Rattle.schedule_pilot.proofs.OfferLaws.{adds_more}
use Rattle.schedule_pilot.proofs.offers.add_changes.Goals as goal

pub loop-i-preserved : goal.loop-i-preserved
loop-i-preserved c =
    rw add-one (adds_more (IsEnabled c.args.world.now.net c.args.world.now.rounds c.args.world.now.state) event.Change c.args.pending.now c.loop-i.i-index c.args.offered.now.items
    c.loop-i.offered.items c.add_change.new.offered.items c.loop-i-test.true c.loop-i.invariant c.in_ok-add_change.ensures)
