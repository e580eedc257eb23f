-- The answers on plans whose mixed walks aren't looked at.
use Rattle.certificates.specs.Updates.{rollout}
use Rattle.std.proofs.Common.{◌≡◌, ◌≤◌, refl, inl, inr}
use Rattle.std.specs.Prelude.{Option, None}
use Rattle.dest_classes.specs.declared.Class.{Class}
use Rattle.certificates.specs.Certified.{classes_for}
use Rattle.check_reasons.specs.Reasons.{IsFirstReason}
use Rattle.check_reasons.specs.declared.reason.Reason.{Reason}
use Rattle.round_tables.specs.Sound.{IsFirstRoundReason}
use Rattle.plan_checker.specs.Checking.{EndsAreGood}
use Rattle.command_base.specs.Answers.{Answer}
use Rattle.command_base.specs.Judgements.{most_classes}
use Rattle.command_base.specs.declared.status.Status.TheVariants as status
use Rattle.check_base.specs.Checks.{CheckMeaning, IsNamed, check_count, task_in}
use Rattle.check_base.specs.ReasonLines.{refused_line, class_named}
use Rattle.explain_command.specs.Explained.{IsExplainAnswer}
use Rattle.explain_command.proofs.SoundLaws.{reason_unsound}

module _ (m : CheckMeaning) (answer : Answer) (few : check_count m ≤ most_classes) (reason : Reason) where
  pub end_answer : (class : Option Class) → IsFirstReason (task_in m) m.plan.evidence reason → ¬ EndsAreGood (task_in m) → IsNamed (classes_for (task_in m)) (class_named reason) class
      → answer ≡ record { status = status.Refused; text = refused_line m.update.net class reason } → IsExplainAnswer m answer
  end_answer class first fails named is =
      inr (inr (record {
        few = few;
        fails = λ can. fails can.ends;
        line = refused_line m.update.net class reason;
        is_why = inl (record { fails = fails; names = record { reason = reason; first = first; class = class; named = named; line_is = refl } });
        answer_is = is;
      }))

  pub round_answer : EndsAreGood (task_in m) → IsFirstRoundReason (rollout (task_in m)) reason → answer ≡ record { status = status.Refused; text = refused_line m.update.net None reason } → IsExplainAnswer m answer
  round_answer ends first is =
      inr (inr (record {
        few = few;
        fails = λ can. reason_unsound (rollout (task_in m)) reason first.holds can.good can.clear;
        line = refused_line m.update.net None reason;
        is_why = inr (inl (record { ends = ends; reason = reason; first = first; line_is = refl }));
        answer_is = is;
      }))
