use Rattle.std.proofs.Common.{◌≤◌, sym, ap, subst}
use Rattle.topology.specs.Networks.{IsNetwork}
use Rattle.dest_classes.specs.Classes.{ClassList, class_count}
use Rattle.certificates.specs.Updates.{rollout}
use Rattle.certificates.specs.Certified.{IsCertified}
use Rattle.certificates.specs.Valid.{IsValidPlan}
use Rattle.certificates.specs.declared.Evidence.TheVariants.{Ordered}
use Rattle.certificates.specs.declared.OrderedEvidence.{OrderedEvidence}
use Rattle.check_reasons.specs.Cases.{CaseView}
use Rattle.round_judge.specs.Evidence.{IsSearchEvidence}
use Rattle.round_certifier.specs.Standing.{target_for}
use Rattle.round_certifier.proofs.CertifiedLaws.{certified_none, made_evidence, made_certified, made_valid, when_none}
use Rattle.round_certifier.proofs.certifying.certify_rounds.Goals as goal

pub certify_all-refusal-requires-clause-so_far : goal.certify_all-refusal-requires-clause-so_far
certify_all-refusal-requires-clause-so_far c =
    let case = c.args.case.now in
    let net = subst IsNetwork (ap (λ (v : CaseView). v.task.update.net) c.case.view_is) c.keeps_rules-2.ensures in
    certified_none case net c.keeps_rules.ensures.old_user c.args.room.now.classed.map c.requires.fits.classed.map c.in_ok-so_far.so_far.store c.in_ok-so_far.ensures.store c.in_ok-so_far.so_far.watch.came.items
    c.in_ok-so_far.ensures.count c.in_ok-so_far.ensures.each c.in_ok-so_far.so_far.looked c.in_ok-so_far.ensures.atoms

pub returns-clause-evidence : goal.returns-clause-evidence
returns-clause-evidence c =
    let case = c.args.case.now in
    let so_far = when_none c.in_ok-refusal.field-0 _ c.in-None.is c.in_ok-refusal.ensures.none in
    subst (IsSearchEvidence (target_for case.task) (rollout case.task)) (sym c.into_evidence-evidence.ensures.evidence)
    (made_evidence case c.requires.ordered c.requires.ends c.certify_all-refusal.new.so_far.store c.certify_all-refusal.new.so_far.watch.came.items c.certify_all-refusal.new.so_far.looked so_far)

pub returns-clause-certified : goal.returns-clause-certified
returns-clause-certified c =
    let case = c.args.case.now in
    let so_far = when_none c.in_ok-refusal.field-0 _ c.in-None.is c.in_ok-refusal.ensures.none in
    subst (λ (e : OrderedEvidence). IsCertified case.task (Ordered e)) (sym c.into_evidence-evidence.ensures.evidence)
    (made_certified case c.requires.ordered c.requires.ends c.certify_all-refusal.new.so_far.store c.certify_all-refusal.new.so_far.watch.came.items c.certify_all-refusal.new.so_far.looked so_far
    (when_none c.in_ok-refusal.field-0 _ c.in-None.is c.in_ok-refusal.ensures.end))

pub returns-clause-valid : goal.returns-clause-valid
returns-clause-valid c =
    let case = c.args.case.now in
    let so_far = when_none c.in_ok-refusal.field-0 _ c.in-None.is c.in_ok-refusal.ensures.none in
    subst (λ (e : OrderedEvidence). IsValidPlan case.task.update.net (record { rounds = case.task.rounds; evidence = Ordered e })) (sym c.into_evidence-evidence.ensures.evidence)
    (made_valid case c.requires.ordered c.requires.ends c.certify_all-refusal.new.so_far.store c.certify_all-refusal.new.so_far.watch.came.items c.certify_all-refusal.new.so_far.looked so_far
    c.keeps_rules.ensures.valid (subst (λ (cs : ClassList). class_count cs ≤ 8192) c.requires.fits.classed.map c.in_ok-so_far.ensures.few) c.into_evidence-evidence.ensures.stored)
