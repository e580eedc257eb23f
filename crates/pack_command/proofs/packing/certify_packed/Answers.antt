use Rattle.std.proofs.Common.{ap, subst}
use Rattle.certificates.specs.Certified.{is_two_phase}
use Rattle.certificates.specs.Updates.{task_for}
use Rattle.check_reasons.specs.Cases.{CaseView}
use Rattle.command_base.specs.Updates.{meaning_of}
use Rattle.round_certifier.specs.Refusals.{IsFirstRefusal, OfRefusal}
use Rattle.pack_command.proofs.PlanLaws.{ends_good, not_refused}
use Rattle.pack_command.proofs.packing.certify_packed.Goals as goal

pub certify_rounds-requires-clause-ordered : goal.certify_rounds-requires-clause-ordered
certify_rounds-requires-clause-ordered c = ap is_two_phase c.requires.plan.bare

pub certify_rounds-requires-clause-ends : goal.certify_rounds-requires-clause-ends
certify_rounds-requires-clause-ends c = ends_good (meaning_of c.args.files.now) c.requires.old c.requires.new c.args.plan.now c.requires.plan.packed c.requires.plan.classes c.requires.good

pub unreachable-requires : goal.unreachable-requires
unreachable-requires c =
    let v : CaseView = record { task = task_for (meaning_of c.args.files.now) c.args.plan.now; evidence = c.args.plan.now.evidence } in
    not_refused (meaning_of c.args.files.now) c.requires.old c.requires.new c.args.plan.now c.requires.plan.packed c.requires.plan.classes c.requires.good c.args.plan.now.evidence c.requires.plan.bare c.in-Err-Refused.field-0-0
    (subst (OfRefusal (IsFirstRefusal v)) c.in-Err-Refused.field-0-is c.in-Err-Refused.ensures.refused)
