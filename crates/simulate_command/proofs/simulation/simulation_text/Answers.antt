use Rattle.std.proofs.Common.{subst, sym}
use Rattle.std.specs.List.{AllByRecursion}
use Rattle.certificates.specs.Updates.{task_for}
use Rattle.command_base.specs.Updates.{meaning_of}
use Rattle.update_model.specs.Worlds.{WorldState}
use Rattle.schedule_pilot.specs.Ends.{AreEntries}
use Rattle.schedule_replay.specs.EventTexts.{HasLine}
use Rattle.simulate_command.proofs.CourseLaws.{both}
use Rattle.simulate_command.proofs.TrafficLaws.{few_enter}
use Rattle.simulate_command.proofs.RecordLaws.{packets_enter, record_of}
use Rattle.simulate_command.proofs.simulation.simulation_text.Goals as goal

pub driven_by-requires-clause-entries : goal.driven_by-requires-clause-entries
driven_by-requires-clause-entries c =
    subst (λ (w : WorldState). AreEntries w.net c.deref.result.now) (sym c.in_ok-world.ensures)
    (rw c.deref.ensures.value (packets_enter (task_for (meaning_of c.args.files.now) c.args.plan.now) c.args.classes.now c.requires.classes c.args.count c.in_ok-entries.entries.items c.in_ok-entries.ensures c.in_ok-world.world c.in_ok-world.ensures))

pub driven_by-requires-clause-few : goal.driven_by-requires-clause-few
driven_by-requires-clause-few c =
    rw c.deref.ensures.value (few_enter c.args.classes.now c.args.count 1000 c.in_ok-entries.entries.items c.in_ok-entries.ensures c.requires.few)

pub record_text-requires-clause-lines : goal.record_text-requires-clause-lines
record_text-requires-clause-lines c =
    subst (λ (w : WorldState). AllByRecursion (HasLine w.net) c.in_ok-driven.driven.events) c.in_ok-world.ensures c.in_ok-driven.ensures.lines

pub returns : goal.returns
returns c =
    both c.record_text.result _ _ _ c.record_text.ensures.text c.record_text.ensures.again (λ t text_is means.
    record_of (task_for (meaning_of c.args.files.now) c.args.plan.now) c.args.classes.now c.requires.classes c.args.count c.in_ok-entries.entries.items c.in_ok-entries.ensures c.in_ok-world.world c.in_ok-world.ensures
    c.args.start c.in_ok-driven.driven.events c.in_ok-driven.driven.world (rw (← c.deref.ensures.value) c.in_ok-driven.ensures.run) (rw (← c.deref.ensures.value) c.in_ok-driven.ensures.within)
    (rw (← c.deref.ensures.value) c.in_ok-driven.ensures.over) t.items text_is means)
