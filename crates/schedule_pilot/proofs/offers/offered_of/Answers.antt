use Rattle.std.proofs.Common.{◌∙◌}
use Rattle.update_model.specs.States.{IsEnabled}
use Rattle.update_model.specs.declared.Event.TheVariants as event
use Rattle.schedule_pilot.specs.Driving.{world_rollout}
use Rattle.schedule_pilot.proofs.OfferLaws.{offered_are, adds_if}
use Rattle.schedule_pilot.proofs.offers.offered_of.Goals as goal

pub returns : goal.returns
returns c =
    offered_are (world_rollout c.args.world.now) c.args.world.now.state c.args.entries.now c.deref-3.result.now c.deref-4.result.now
    (record { pending_are = c.deref-3.ensures.value ∙ c.requires.kept.pending_are; under_way_are = c.deref-4.ensures.value ∙ c.requires.kept.under_way_are }) c.requires.entries
    c.new-offered.result.items c.add_if.new.offered.items c.add_if-2.new.offered.items c.add_changes.new.offered.items c.add_entry.new.offered.items c.add_hops.new.offered.items
    c.new-offered.ensures.items
    (adds_if (IsEnabled c.args.world.now.net c.args.world.now.rounds c.args.world.now.state) event.Start c.may_start.result _ _ c.may_start.ensures c.in_ok-add_if.ensures)
    (adds_if (IsEnabled c.args.world.now.net c.args.world.now.rounds c.args.world.now.state) event.Settle c.may_settle.result _ _ c.may_settle.ensures c.in_ok-add_if-2.ensures)
    c.in_ok-add_changes.ensures c.in_ok-add_entry.ensures c.in_ok-add_hops.ensures
