use Rattle.std.proofs.Common.{List, ◌≢◌, arith, sym, ◌∙◌, ap, subst}
use Rattle.update_model.specs.Worlds.{WorldState}
use Rattle.schedule_pilot.specs.Agendas.{numbers_on}
use Rattle.schedule_pilot.specs.Counted.{offered_events}
use Rattle.schedule_pilot.specs.Driving.{world_rollout, ending_at}
use Rattle.schedule_pilot.specs.Ends.{AreEntries}
use Rattle.schedule_pilot.specs.declared.Entry.{Entry}
use Rattle.schedule_pilot.proofs.DriveLaws.{run_from, ends_as, named_enabled, so_far_named, entries_kept}
use Rattle.schedule_pilot.proofs.SafeLaws.{offered_now, named_there}
use Rattle.schedule_pilot.proofs.safe_driving.run_on.Goals as goal

pub returns-in-Some-clause-run : goal.returns-in-Some-clause-run
returns-in-Some-clause-run g c = run_from c.args.world.now _ c.args.entries.now c.steps.events c.steps.world c.steps.rest.now c.steps.made c.steps.invariant.0

pub returns-in-Some-clause-ends : goal.returns-in-Some-clause-ends
returns-in-Some-clause-ends g c =
    let offered = offered_events c.due_in-due.result (numbers_on 0 c.steps.counted.pending) c.steps.rest.now c.steps.counted.under_way.items in
    let are = offered_now c.args.world.now _ c.args.entries.now c.requires.net c.requires.safely c.requires.entries c.steps.events c.steps.world c.steps.rest.now c.steps.made c.steps.invariant.0
    c.steps.counted.pending c.steps.counted.under_way.items c.due_in-due.result c.steps.invariant.1 c.steps.invariant.2 c.due_in-due.ensures in
    ends_as c.args.world.now _ c.args.entries.now c.steps.events c.steps.world c.steps.rest.now c.steps.made c.steps.invariant.0 c.args.budget offered c.is_over-over.result
    c.in-Some.ending c.is_over-over.ensures are c.steps.invariant.3
    (ap (λ n. ending_at c.is_over-over.result n c.steps.made c.args.budget) (sym c.offered_count-offered.ensures) ∙ sym c.in-Some.ensures.is)

pub make_event-requires-clause-may : goal.make_event-requires-clause-may
make_event-requires-clause-may g c =
    let offered = offered_events c.due_in-due.result (numbers_on 0 c.steps.counted.pending) c.steps.rest.now c.steps.counted.under_way.items in
    let are = offered_now c.args.world.now _ c.args.entries.now c.requires.net c.requires.safely c.requires.entries c.steps.events c.steps.world c.steps.rest.now c.steps.made c.steps.invariant.0
    c.steps.counted.pending c.steps.counted.under_way.items c.due_in-due.result c.steps.invariant.1 c.steps.invariant.2 c.due_in-due.ensures in
    named_enabled (world_rollout c.steps.world) c.steps.world.state c.steps.rest.now offered c.ask-named.result c.offered_count-offered.result c.offered_event-event.result
    are c.offered_count-offered.ensures c.ask-named.ensures.below (named_there offered c.ask-named.result c.offered_event-event.result c.offered_event-event.ensures)

pub steps-preserved : goal.steps-preserved
steps-preserved g c =
    let offered = offered_events c.due_in-due.result (numbers_on 0 c.steps.counted.pending) c.steps.rest.now c.steps.counted.under_way.items in
    let are = offered_now c.args.world.now _ c.args.entries.now c.requires.net c.requires.safely c.requires.entries c.steps.events c.steps.world c.steps.rest.now c.steps.made c.steps.invariant.0
    c.steps.counted.pending c.steps.counted.under_way.items c.due_in-due.result c.steps.invariant.1 c.steps.invariant.2 c.due_in-due.ensures in
    let on : c.steps.made ≢ c.args.budget = c.in_default.ensures.goes_on.1 in (
      so_far_named c.args.world.now _ c.args.entries.now c.steps.events c.steps.world c.steps.rest.now c.steps.made c.steps.invariant.0 c.offered_event-event.result c.make_event.new.world
          c.entries_past-rest.result.now c.add.new.self offered c.ask-named.result c.offered_count-offered.result
          are c.offered_count-offered.ensures c.ask-named.ensures.named c.ask-named.ensures.below (named_there offered c.ask-named.result c.offered_event-event.result c.offered_event-event.ensures)
          c.in_ok-make_event.ensures.world c.entries_past-rest.ensures c.in_ok-add.ensures.ok,
      c.in_ok-make_event.ensures.kept,
      subst (λ (l : List Entry). AreEntries c.make_event.new.world.net l) (sym c.entries_past-rest.ensures) (entries_kept c.make_event.new.world.net c.offered_event-event.result c.steps.rest.now
          (subst (λ (x : WorldState). AreEntries x.net c.steps.rest.now) (sym c.in_ok-make_event.ensures.world) c.steps.invariant.2)),
      (let within = c.steps.invariant.3 in omega (arith, on)),
    )
