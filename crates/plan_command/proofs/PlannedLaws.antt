-- What a run of `plan` says of the files of a source that tells.
use Rattle.std.proofs.Common.{◌≡◌, ℕ, List, sym, ap, ◌∙◌, inl, inr}
use Rattle.std.specs.declared.option.Option.{Option}
use Rattle.file_access.specs.Outside.{Files}
use Rattle.update_model.specs.declared.Change.{Change}
use Rattle.certificates.specs.Updates.{Update}
use Rattle.certificates.specs.declared.Plan.{Plan}
use Rattle.round_planner.specs.Search.{single_rounds}
use Rattle.round_planner.specs.Updates.{update_target}
use Rattle.two_phase.specs.Laws.{FitsTwoPhase}
use Rattle.command_base.specs.declared.status.Status.{Status}
use Rattle.command_base.specs.declared.status.Status.TheVariants as status
use Rattle.command_base.specs.Names.{UpdateNames}
use Rattle.command_base.specs.Answers.{Answer}
use Rattle.command_base.specs.Readings.{reading_update}
use Rattle.command_base.specs.Runs.{IsComplete, Answered}
use Rattle.command_base.proofs.JudgementLaws.{refusals}
use Rattle.command_base.proofs.RunLaws.{settled_done}
use Rattle.plan_command.specs.Ends.{BothEndsAreGood, IsEndLine}
use Rattle.plan_command.specs.NewPlans.{FilesMeanTrees, WritesOrderedPlan, HasPlan}
use Rattle.plan_command.specs.Planned.{AreSearched, IsNewPlan, SaysOrdered, SaysWhyNone, IsPlanned}
use Rattle.plan_command.specs.Promise.{PlanPromise}
use Rattle.plan_command.proofs.UpdateAnswers as law
use Rattle.plan_command.proofs.UpdateAnswers.{AreApart, IsOneStuck, IsOneTried, AnswersUpdate, answers_by, plan_status, none_fits}

has_plan : (u : Update) (p : Plan) → IsNewPlan u p → HasPlan u
has_plan u p (inl ordered) = inl (record { changes = ordered.changes; ends = ordered.searched.ends })
has_plan u p (inr two) = inr (record { changes = two.stuck.changes; ends = two.stuck.ends }, two.fits)

-- the rounds of a search that is stuck are the only ones
pub one_searched : IsOneStuck → IsOneTried AreSearched
one_searched one u tried others is other = is.rounds_are ∙ ap (λ cs. single_rounds cs) (one (update_target u) u.old is.changes other.changes is.ends other.ends) ∙ sym other.rounds_are

module _ (apart : AreApart) where
  -- where there is a plan, no cause says that there is none
  not_none : (u : Update) (answer : Answer) → HasPlan u → ¬ SaysWhyNone AreSearched u answer
  not_none u answer (inl ordered) v = apart (update_target u) u.old ordered.changes v.are_tried.changes ordered.ends v.are_tried.ends
  not_none u answer (inr (stuck, fits)) v = none_fits u v.tried answer fits v.why

  -- where the search ends stuck, a new plan is one of two phases that fit
  stuck_fits : (u : Update) (tried : List (List Change)) → AreSearched u tried → (p : Plan) → IsNewPlan u p → FitsTwoPhase u.net u.old u.new
  stuck_fits u tried stuck p (inl ordered) = absurd (apart (update_target u) u.old ordered.changes stuck.changes ordered.searched.ends stuck.ends)
  stuck_fits u tried stuck p (inr two) = two.fits

-- a settled run of `plan` over a source that tells
abbrev AnswersPlan : Files → UpdateNames → Option (List ℕ) → Option (List ℕ) → Status → Type 0
AnswersPlan files names old new result = AnswersUpdate BothEndsAreGood IsEndLine IsNewPlan AreSearched SaysOrdered files names old new result

module _ {files : Files} {names : UpdateNames} {old new : Option (List ℕ)} {result : Status} (r : AnswersPlan files names old new result) where
  -- on an update of destination trees the answer is an ordered plan
  tree : (u : Update) → FilesMeanTrees files names u → (result ≡ status.Done) × WritesOrderedPlan u old new
  tree u trees =
      let v = r.of_trees u trees in (
        sym r.judged.run.status_is ∙ plan_status u r.judged.run.answer v.plan v.says,
        record { plan = v.plan; searched = v.searched; count = v.count; means = v.says.means; written = law.wrote_plan r u v.plan v.says },
      )

pub promised : (files : Files) (names : UpdateNames) (old new : Option (List ℕ)) (result : Status) → AreApart → IsOneStuck → (IsComplete result → Answered IsPlanned files (reading_update names) old new result) → PlanPromise files names old new result
promised files names old new result apart one answered =
    let runs : IsComplete result → AnswersPlan files names old new result = λ settled. answers_by (answered settled) in
    record {
      done = λ settled. law.done (runs settled) HasPlan has_plan (λ u good has. good) (not_none apart);
      writes = λ u mean is. law.writes (runs (settled_done _ is)) is u mean;
      keeps = λ before u p told is mean text. law.keeps (runs (settled_done _ is)) before told is u p mean text;
      checked = λ others before plan text told is there within beside. law.checked (runs (settled_done _ is)) before told is others plan text there within beside;
      tree = λ settled u trees. tree (runs settled) u trees;
      refusals = refusals (λ settled. (runs settled).judged);
      too_few = λ settled. (λ is. law.lack_tags (runs settled) is, λ h. law.too_few (runs settled) h h.mean.good (stuck_fits apart h.update h.tried h.are_tried));
      too_few_lines = λ settled h. law.too_few_written (runs settled) h h.mean.good (stuck_fits apart h.update h.tried h.are_tried) (one_searched one);
      too_small = λ settled. (λ is. law.lack_room (runs settled) is, λ h. law.too_small (runs settled) h h.mean.good (stuck_fits apart h.update h.tried h.are_tried));
      too_small_lines = λ settled h. law.too_small_written (runs settled) h h.mean.good (stuck_fits apart h.update h.tried h.are_tried) (one_searched one);
    }
