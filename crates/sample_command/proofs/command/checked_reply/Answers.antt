use Rattle.std.proofs.Common.{subst, ap, ◌∙◌}
use Rattle.dest_classes.specs.Classes.{class_count}
use Rattle.certificates.specs.Certified.{classes_for}
use Rattle.certificates.specs.Updates.{Update, task_for}
use Rattle.round_planner.specs.Updates.{KeepsConsistent}
use Rattle.sample_command.proofs.command.checked_reply.Goals as goal

pub summary-requires-clause-keeps : goal.summary-requires-clause-keeps
summary-requires-clause-keeps c =
    subst (λ (u : Update). KeepsConsistent u c.args.plan.now) c.requires.meaning
    (record { certified = c.requires.certified; consistent = c.certified_consistent.ensures c.requires.certified })

pub summary-requires-clause-classes : goal.summary-requires-clause-classes
summary-requires-clause-classes c = c.in_ok-classes.ensures ∙ c.requires.classes

pub summary-requires-clause-counted : goal.summary-requires-clause-counted
summary-requires-clause-counted c =
    c.in_ok-classes.ensures ∙ ap (λ (u : Update). class_count (classes_for (task_for u c.args.plan.now))) c.requires.meaning
