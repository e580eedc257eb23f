use Rattle.std.proofs.Common.{subst, ◌∙◌}
use Rattle.certificates.specs.Certified.{classes_for}
use Rattle.certificates.specs.Updates.{Update, task_for}
use Rattle.round_planner.specs.Ends.{IsPlanOf}
use Rattle.command_base.specs.Updates.{meaning_of}
use Rattle.round_planner.specs.Updates.{update_classes, update_target}
use Rattle.sample_command.proofs.SampleLaws.{as_many}
use Rattle.sample_command.proofs.command.planned_reply.Goals as goal

pub checked_reply-reply-requires-clause-searched : goal.checked_reply-reply-requires-clause-searched
checked_reply-reply-requires-clause-searched c =
    subst (λ (u : Update). IsPlanOf (update_target u) u.old c.in_ok-plan.plan) c.requires.meaning c.in_ok-plan.ensures.searched

pub checked_reply-reply-requires-clause-rounds : goal.checked_reply-reply-requires-clause-rounds
checked_reply-reply-requires-clause-rounds c = c.in_ok-plan.ensures.count ∙ c.requires.differ

pub checked_reply-reply-requires-clause-classes : goal.checked_reply-reply-requires-clause-classes
checked_reply-reply-requires-clause-classes c =
    as_many (classes_for (task_for (meaning_of c.args.files.now) c.in_ok-plan.plan)) (update_classes (meaning_of c.args.files.now)) c.in_ok-plan.ensures.classes
    ∙ c.requires.classes
