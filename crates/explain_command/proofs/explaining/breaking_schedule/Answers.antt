use Rattle.certificates.specs.Updates.{task_for}
use Rattle.command_base.specs.Updates.{meaning_of}
use Rattle.explain_command.proofs.CountLaws.{each_short}
use Rattle.explain_command.proofs.ScheduleLaws.{both, breaking_of}
use Rattle.explain_command.proofs.explaining.breaking_schedule.Goals as goal

pub runs_have_lines-requires-clause-short : goal.runs_have_lines-requires-clause-short
runs_have_lines-requires-clause-short c = each_short c.args.plan.now.rounds c.requires.valid.few_changes

pub returns : goal.returns
returns c =
    both c.schedule_text.result _ _ _ c.schedule_text.ensures.text c.schedule_text.ensures.again (λ t text_is means.
    breaking_of (task_for (meaning_of c.args.files.now) c.args.plan.now) c.args.events.now c.requires.first t.items text_is means)
