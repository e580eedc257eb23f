use Rattle.certificates.specs.Updates.{rollout, task_for}
use Rattle.std.proofs.Common.{List, refl, ap, ◌∙◌}
use Rattle.update_model.specs.declared.Change.{Change}
use Rattle.command_base.specs.Updates.{meaning_of}
use Rattle.drive_command.specs.Reports.{report_text}
use Rattle.drive_command.proofs.CarriedLaws.{report_of}
use Rattle.drive_command.proofs.verdict.report_reply.Goals as goal

pub returns : goal.returns
returns c = λ inputs are driven.
    let u = (rollout (task_for (meaning_of c.args.files.now) c.args.plan.now)) in
    let text_is = c.in_ok-report_text.ensures ∙ ap (λ (rounds : List (List Change)). report_text u.net rounds c.args.driver.now.state) c.requires.rounds in
    record {
      text = c.in_ok-report_text.field-0.items;
      report = report_of u (c.certified_begins_safely.ensures c.requires.certified).good c.args.driver.now c.requires.net c.requires.rounds c.keeps_rules-2.ensures.drivable
          c.keeps_rules.ensures inputs are driven c.in_ok-report_text.field-0.items text_is;
      answer_is = refl;
    }
