use Rattle.std.proofs.Common.{◌≡◌, ◌<◌, List, Option, length, get_or, sym, ◌∙◌, subst, ap, arith, add-one}
use Rattle.std.specs.Prelude.{IfNone}
use Rattle.std.proofs.lemmas.Option.{slice_get_within, get_or_from_slice_get}
use Rattle.dest_classes.specs.Classes.{ClassList, IsClass, class_count}
use Rattle.dest_classes.proofs.MapLaws.{number_fits, class_exists}
use Rattle.demands.specs.Good.{HasGoodPaths}
use Rattle.certificates.specs.declared.Label.{Label}
use Rattle.certificates.specs.Certified.{classes_for}
use Rattle.certificates.specs.declared.Evidence.{Evidence}
use Rattle.certificates.specs.declared.Evidence.TheVariants.{TwoPhase}
use Rattle.check_reasons.specs.Cases.{CaseView}
use Rattle.check_reasons.specs.Ranks.{classes_start}
use Rattle.check_reasons.specs.Passed.{ChangesPass, ClassesPass, RoundsPass, IsFirstFrom}
use Rattle.two_phase_check.specs.InForce.{AreBegun}
use Rattle.two_phase_check.specs.declared.labels.LabelsInForce.{LabelsInForce}
use Rattle.two_phase_check.specs.Judged.{AllKeepVersions, IsFirstMixed, StandUntouched}
use Rattle.check_reasons.specs.declared.reason.Reason.{Reason}
use Rattle.check_reasons.specs.declared.reason.Reason.TheVariants.{BadLabels, MixedPath}
use Rattle.two_phase_check.proofs.JudgedLaws.{bad_labels_first, mixed_first, classes_pass, force_some, force_none, rise_from}
use Rattle.two_phase_check.proofs.InForceLaws.{HaveBegun}
use Rattle.two_phase_check.proofs.StandLaws.{certificates_stand}
use Rattle.two_phase_check.proofs.two_phase.TwoPhaseRoom.judge_round.Goals as goal

pub returns-then-count-eq0-clause-none : goal.returns-then-count-eq0-clause-none
returns-then-count-eq0-clause-none c =
    λ n class is.
    let fits : n < class_count c.args.classes.now = number_fits c.args.classes.now n class (subst (λ (xs : ClassList). IsClass xs n class) (sym c.requires.classes) is) in
    absurd (let none = c.if-count-eq0.true in let count = c.count.ensures.count in omega arith)

pub returns-in_default-clause-some : goal.returns-in_default-clause-some
returns-in_default-clause-some c =
    let t = c.args.case.now.task in
    let some : 0 < class_count c.args.classes.now = (let more = c.if-count-eq0.false in let count = c.count.ensures.count in omega arith) in
    let (class, is) = class_exists c.args.classes.now 0 some in
    subst (λ n. IsFirstFrom t (TwoPhase c.args.evidence.now) (classes_start c.args.k) (BadLabels n)) (sym (add-one c.args.k))
    (bad_labels_first t c.args.evidence.now c.args.k c.requires.round 0 class (subst (λ (xs : ClassList). IsClass xs 0 class) c.requires.classes is)
    (force_none t c.args.evidence.now c.args.k c.case.inside.net.now (ap (λ (v : CaseView). v.task.update.net) c.case.view_is) c.advance.new.self.table c.advance.ensures.in_force c.in_default.not-Some))

pub bounds-tables-table : goal.bounds-tables-table
bounds-tables-table c =
    let e = c.args.evidence.now in
    let force = force_some c.args.case.now.task e c.args.k c.case.inside.net.now (ap (λ (v : CaseView). v.task.update.net) c.case.view_is) c.advance.new.self.table c.advance.ensures.in_force c.in-Some.table c.in-Some.is in
    subst (λ (xs : List (List Label)). c.in-Some.table < length xs) (sym c.list-tables.ensures) (slice_get_within e.labels c.in-Some.table force.0 force.1)

pub judge_classes-requires-clause-classes : goal.judge_classes-requires-clause-classes
judge_classes-requires-clause-classes c =
    let t = c.args.case.now.task in
    let e = c.args.evidence.now in
    let k = c.args.k in
    let force = force_some t e k c.case.inside.net.now (ap (λ (v : CaseView). v.task.update.net) c.case.view_is) c.advance.new.self.table c.advance.ensures.in_force c.in-Some.table c.in-Some.is in
    let labels : c.list-labels.result.now ≡ force.0 =
    c.list-labels.ensures ∙ c.index-tables-table.is ∙ ap (λ (xs : List (List Label)). get_or xs c.in-Some.table c.index-tables-table.result) c.list-tables.ensures
    ∙ get_or_from_slice_get e.labels c.in-Some.table force.0 c.index-tables-table.result force.1 in
    let rise = rise_from c.case.inside.net.now _ _ c.case.inside.plan.now.evidence e (ap (λ (v : CaseView). v.evidence) c.case.view_is ∙ c.requires.evidence) c.case.invariant.valid.evidence in
    record {
      hosts = ap (λ (xs : ClassList). xs.hosts) c.requires.classes;
      old_good = subst (λ (xs : ClassList). HasGoodPaths t.update.net t.update.old t.update.demands xs) (sym c.requires.classes) c.requires.old_good;
      new_good = subst (λ (xs : ClassList). HasGoodPaths t.update.net t.update.new t.update.demands xs) (sym c.requires.classes) c.requires.new_good;
      touched = c.mark.ensures;
      stands = λ yes.
          let (later, same) = c.keeps_labels-stands.ensures yes in
          subst (λ (xs : ClassList). StandUntouched t k xs c.list-labels.result.now) (sym c.requires.classes)
          (subst (λ (ls : List Label). StandUntouched t k (classes_for t) ls) (sym labels)
          (certificates_stand t e k c.advance.new.self.begun force.0 rise later c.requires.round (subst (λ (v : Evidence). RoundsPass t v k) c.requires.evidence c.requires.before)
          (subst (λ (v : Evidence). ChangesPass t v k) c.requires.evidence c.requires.pass) force.2 (subst (λ r. AreBegun e.picks r c.advance.new.self.begun) (add-one k) c.advance.ensures.begun)
          (subst (λ n. HaveBegun e.picks k n) same (subst (λ (s : LabelsInForce). HaveBegun e.picks k s.begun) (sym c.self.view_is) c.requires.stands.begun))));
    }

pub returns-in_err-mixed-clause-none : goal.returns-in_err-mixed-clause-none
returns-in_err-mixed-clause-none c =
    let t = c.args.case.now.task in
    let e = c.args.evidence.now in
    let k = c.args.k in
    let force = force_some t e k c.case.inside.net.now (ap (λ (v : CaseView). v.task.update.net) c.case.view_is) c.advance.new.self.table c.advance.ensures.in_force c.in-Some.table c.in-Some.is in
    let labels : c.list-labels.result.now ≡ force.0 =
    c.list-labels.ensures ∙ c.index-tables-table.is ∙ ap (λ (xs : List (List Label)). get_or xs c.in-Some.table c.index-tables-table.result) c.list-tables.ensures
    ∙ get_or_from_slice_get e.labels c.in-Some.table force.0 c.index-tables-table.result force.1 in
    let rise = rise_from c.case.inside.net.now _ _ c.case.inside.plan.now.evidence e (ap (λ (v : CaseView). v.evidence) c.case.view_is ∙ c.requires.evidence) c.case.invariant.valid.evidence in
    subst (λ (o : Option Reason). IfNone o (ClassesPass t (TwoPhase e) k)) (sym c.from_residual.ensures)
    (classes_pass t e k c.requires.round force.0 rise force.2
    (subst (λ (xs : ClassList). AllKeepVersions t k xs force.0) c.requires.classes (subst (λ (ls : List Label). AllKeepVersions t k c.args.classes.now ls) labels c.in_err-mixed.ensures.none)))

pub returns-clause-some : goal.returns-clause-some
returns-clause-some c =
    let t = c.args.case.now.task in
    let e = c.args.evidence.now in
    let k = c.args.k in
    let force = force_some t e k c.case.inside.net.now (ap (λ (v : CaseView). v.task.update.net) c.case.view_is) c.advance.new.self.table c.advance.ensures.in_force c.in-Some.table c.in-Some.is in
    let labels : c.list-labels.result.now ≡ force.0 =
    c.list-labels.ensures ∙ c.index-tables-table.is ∙ ap (λ (xs : List (List Label)). get_or xs c.in-Some.table c.index-tables-table.result) c.list-tables.ensures
    ∙ get_or_from_slice_get e.labels c.in-Some.table force.0 c.index-tables-table.result force.1 in
    let rise = rise_from c.case.inside.net.now _ _ c.case.inside.plan.now.evidence e (ap (λ (v : CaseView). v.evidence) c.case.view_is ∙ c.requires.evidence) c.case.invariant.valid.evidence in
    let mixed = c.in_ok-mixed.mixed in
    subst (λ n. IsFirstFrom t (TwoPhase e) (classes_start k) (MixedPath n mixed.class mixed.switch)) (sym (add-one k))
    (mixed_first t e k c.requires.round force.0 rise force.2 mixed
    (subst (λ (xs : ClassList). IsFirstMixed t k xs force.0 mixed) c.requires.classes (subst (λ (ls : List Label). IsFirstMixed t k c.args.classes.now ls mixed) labels c.in_ok-mixed.ensures.some)))
