use Rattle.std.proofs.Common.{sym, ◌∙◌, ap, subst}
use Rattle.certificates.specs.declared.Evidence.{Evidence}
use Rattle.check_reasons.specs.Cases.{CaseView}
use Rattle.check_reasons.specs.Passed.{RoundsPass}
use Rattle.plan_checker.proofs.evidence_room.EvidenceRoom.judge_round.Goals as goal

pub judge_round-requires-clause-before : goal.judge_round-requires-clause-before
judge_round-requires-clause-before c =
    subst (λ (v : Evidence). RoundsPass c.args.case.now.task v c.args.k) (sym (ap (λ (v : CaseView). v.evidence) c.case.view_is) ∙ c.in-Ordered-evidence.is) c.requires.before
