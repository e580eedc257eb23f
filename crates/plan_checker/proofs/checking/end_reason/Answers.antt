use Rattle.std.proofs.Common.{sym, subst}
use Rattle.dest_classes.specs.Classes.{ClassList}
use Rattle.demands.specs.Duties.{ClassDuties}
use Rattle.config_check.specs.Ends.{IsFirstEndBreak}
use Rattle.check_reasons.specs.Cases.{CaseView}
use Rattle.check_reasons.specs.Reasons.{IsFirstReason}
use Rattle.plan_checker.proofs.Stages.{case_ascends, end_first}
use Rattle.plan_checker.proofs.checking.end_reason.Goals as goal

pub returns-in-Some-clause-some : goal.returns-in-Some-clause-some
returns-in-Some-clause-some c =
    let case = c.args.case.now in
    let u = case.task.update in
    let end = c.in-Some.end in
    let classed = c.args.room.now.classed in
    let of_case = subst (λ (v : CaseView). IsFirstEndBreak v.task.update.net v.task.update.old v.task.update.new classed.duties.demands classed.map end.new end.breaks) c.case.view_is c.in-Some.ensures.some in
    let of_demands = subst (λ (d : ClassDuties). IsFirstEndBreak u.net u.old u.new d.demands classed.map end.new end.breaks) c.requires.classed.duties of_case in
    subst (IsFirstReason case.task case.evidence) (sym c.of_end.ensures)
    (end_first case.task case.evidence c.keeps_rules.ensures.old_user.count (case_ascends case c.keeps_rules.ensures) end.new end.breaks
    (subst (λ (classes : ClassList). IsFirstEndBreak u.net u.old u.new u.demands classes end.new end.breaks) c.requires.classed.map of_demands))
