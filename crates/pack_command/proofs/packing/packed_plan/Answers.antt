use Rattle.std.proofs.Common.{◌≡◌, refl, sym, ap, subst}
use Rattle.certificates.specs.Certified.{classes_for}
use Rattle.certificates.specs.Updates.{Update, task_for}
use Rattle.certificates.specs.declared.Evidence.TheVariants.{Ordered}
use Rattle.certificates.specs.declared.OrderedEvidence.{OrderedEvidence}
use Rattle.certificates.specs.declared.Plan.{Plan}
use Rattle.command_base.specs.Updates.{meaning_of}
use Rattle.evidence_store.specs.Stored.{no_evidence}
use Rattle.round_planner.specs.Updates.{update_classes}
use Rattle.table_difference.specs.SameClasses.{HasSameClasses}
use Rattle.pack_command.specs.Chosen.{IsPackedPlan}
use Rattle.pack_command.proofs.PlanLaws.{bare_valid, same_classes, searched_as}
use Rattle.pack_command.proofs.packing.packed_plan.Goals as goal

pub packed_evidence-requires-clause-plan : goal.packed_evidence-requires-clause-plan
packed_evidence-requires-clause-plan c =
    let u : Update = meaning_of c.args.files.now in
    let bare : Plan = record { rounds = c.args.rounds; evidence = Ordered c.in-Ok.none } in
    let none : bare.evidence ≡ Ordered no_evidence = ap (λ (e : OrderedEvidence). Ordered e) c.in-Ok.ensures in
    record {
      packed = c.requires.packed;
      bare = none;
      valid = bare_valid u c.requires.old c.requires.new bare c.requires.packed c.keeps_rules.ensures none;
      classes = same_classes u c.requires.old c.requires.new bare c.requires.packed c.rounds_make_no_classes.ensures;
    }

pub returns-in-Ok-packed_evidence-clause-packed :
    goal.returns-in-Ok-packed_evidence-clause-packed
returns-in-Ok-packed_evidence-clause-packed c =
    let u : Update = meaning_of c.args.files.now in
    let bare : Plan = record { rounds = c.args.rounds; evidence = Ordered c.in-Ok.none } in
    let same = same_classes u c.requires.old c.requires.new bare c.requires.packed c.rounds_make_no_classes.ensures in
    let e : OrderedEvidence = c.in-Ok-packed_evidence.evidence in
    subst (IsPackedPlan u) (sym c.with_evidence.ensures) (record {
      packed = c.requires.packed;
      evidence = e;
      evidence_is = refl;
      searched = searched_as u c.requires.old c.requires.new bare c.requires.packed same e c.in-Ok-packed_evidence.ensures.searched;
    })

pub returns-in-Ok-packed_evidence-clause-classes :
    goal.returns-in-Ok-packed_evidence-clause-classes
returns-in-Ok-packed_evidence-clause-classes c =
    let u : Update = meaning_of c.args.files.now in
    let bare : Plan = record { rounds = c.args.rounds; evidence = Ordered c.in-Ok.none } in
    subst (λ (p : Plan). HasSameClasses (classes_for (task_for u p)) (update_classes u)) (sym c.with_evidence.ensures)
    (same_classes u c.requires.old c.requires.new bare c.requires.packed c.rounds_make_no_classes.ensures)
