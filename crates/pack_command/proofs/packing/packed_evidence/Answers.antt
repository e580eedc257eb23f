use Rattle.std.proofs.Common.{◌<◌, subst}
use Rattle.dest_classes.specs.Numbered.{IsCauseOf}
use Rattle.certificates.specs.Certified.{classes_for}
use Rattle.certificates.specs.Updates.{task_for}
use Rattle.command_base.specs.Updates.{meaning_of}
use Rattle.pack_command.proofs.PlanLaws.{not_too_many}
use Rattle.pack_command.proofs.packing.packed_evidence.Goals as goal

pub unreachable-requires : goal.unreachable-requires
unreachable-requires c =
    let cause = subst (IsCauseOf (classes_for (task_for (meaning_of c.args.files.now) c.args.plan.now))) c.in-Err-TooManyClasses.field-0-is c.in-Err-TooManyClasses.ensures.too_many in
    let many = subst (λ n. 8192 < n) cause.0 cause.1 in
    not_too_many (meaning_of c.args.files.now) c.requires.old c.requires.new c.args.plan.now c.requires.plan.packed c.requires.plan.classes c.requires.few many
