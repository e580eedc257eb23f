-- What a run of `explain` says of the files of a source that tells.
use Rattle.std.proofs.Common.{◌≡◌, ◌⊎◌, ◌↔◌, ℕ, true, false, List, Some, ap, ◌∙◌, subst, inl, inr, arith}
use Rattle.std.specs.declared.option.Option.{Option}
use Rattle.std.specs.Io.KnownBytes.{Appends}
use Rattle.file_access.specs.Outside.{Files}
use Rattle.config_files.proofs.UserTables.{configuration_shown}
use Rattle.certificates.specs.Certified.{is_two_phase}
use Rattle.certificates.specs.Consistent.{IsConsistent}
use Rattle.certificates.specs.declared.Evidence.{Evidence}
use Rattle.certificates.specs.declared.Evidence.TheVariants.{Ordered, TwoPhase}
use Rattle.certificates.specs.declared.OrderedEvidence.{OrderedEvidence}
use Rattle.command_base.specs.declared.status.Status.{Status}
use Rattle.command_base.specs.declared.status.Status.TheVariants as status
use Rattle.command_base.specs.Runs.{IsComplete, Answered}
use Rattle.command_base.proofs.AnswerLaws.{texts_same, first_byte}
use Rattle.command_base.proofs.JudgementLaws.{judges, judged_done, judged_then, refusals, says_of}
use Rattle.command_base.proofs.RunLaws.{settled_done}
use Rattle.check_base.specs.Names.{CheckNames}
use Rattle.check_base.specs.Checks.{CheckMeaning, check_dialogue, FilesMeanPlan, task_in}
use Rattle.check_base.proofs.FileLaws.{check_meant}
use Rattle.explain_command.specs.Explained.{CanBeExplained, IsExplainAnswer, IsExplanation, IsBreakingSchedule, NothingBreaks, SomethingBreaks, nothing_line, WritesBreakingRun, WritesNothingBreaks}
use Rattle.explain_command.specs.Promise.{ExplainPromise}
use Rattle.explain_command.proofs.SafeLaws.{safe_rounds}
use Rattle.explain_command.proofs.ScheduleLaws.{begins_so}

-- the evidence of an ordered plan
ordered_of : (evidence : Evidence) → is_two_phase evidence ≡ false → OrderedEvidence
ordered_of (Ordered evidence) is = evidence
ordered_of (TwoPhase evidence) is = absurd (let e : true ≡ false = is in cc)

-- of a settled run of `explain` over a source that tells, whose mixed walks are looked at
module _ (files : Files) (names : CheckNames) (old new : Option (List ℕ)) (result : Status) (a : Answered IsExplainAnswer files (check_dialogue names) old new result)
    (is : result ≡ status.Done) (m : CheckMeaning) (mean : FilesMeanPlan files names m) where
  said : IsExplanation (task_in m) a.answer.text
  said = judged_then (judges (check_meant files names) a) is m mean

  writes_run : IsBreakingSchedule (task_in m) a.answer.text → WritesBreakingRun m old new
  writes_run shows = record { text = a.answer.text; shows = shows; written = a.written }

  writes_nothing : NothingBreaks (task_in m) → a.answer.text ≡ nothing_line → WritesNothingBreaks m old new
  writes_nothing none text_is = record { none = none; written = subst (λ t. Appends old new t) text_is a.written }

  run : WritesBreakingRun m old new ⊎ WritesNothingBreaks m old new
  run = elim said [ inl shows ↦ inl (writes_run shows) | inr none ↦ inr (writes_nothing none.none none.text_is) ]

  something : WritesBreakingRun m old new → SomethingBreaks (task_in m)
  something w =
      let first = w.shows.first in
      record { round = first.round; within = first.within; number = first.number; class = first.class; is_class = first.is_class; breaks = first.breaks }

  shown : WritesBreakingRun m old new ↔ SomethingBreaks (task_in m)
  shown = (
    something,
    λ s. elim said [
      | inl shows ↦ writes_run shows
      | inr none ↦ absurd (none.none s.round s.within s.number s.class s.is_class s.breaks)
    ],
  )

  nothing : WritesNothingBreaks m old new ↔ NothingBreaks (task_in m)
  nothing = (
    λ w. w.none,
    λ none. elim said [
      | inl shows ↦ (let s = something (writes_run shows) in absurd (none s.round s.within s.number s.class s.is_class s.breaks))
      | inr says ↦ writes_nothing none says.text_is
    ],
  )

  -- a schedule begins otherwise than the line
  nothing_only : (before : List ℕ) → old ≡ Some before → Appends old new nothing_line → NothingBreaks (task_in m)
  nothing_only before told line = elim said [
    | inl shows ↦ (
        let wrote : Appends (Some before) new a.answer.text = subst (λ o. Appends o new a.answer.text) told a.written in
        let same : nothing_line ≡ a.answer.text = texts_same before new nothing_line a.answer.text (subst (λ o. Appends o new nothing_line) told line) wrote in
        let letters : 110 ≡ 115 = ap first_byte same ∙ begins_so (task_in m) a.answer.text shows in
        absurd (omega (arith, letters)))
    | inr none ↦ none.none
  ]

  can : CanBeExplained m
  can = (says_of (judges (check_meant files names) a) m mean (λ e. cc) (λ e. cc)).holds

  -- where no mixed walk breaks its duties the rounds are consistent
  consistent : NothingBreaks (task_in m) → IsConsistent m.update m.plan.rounds false
  consistent none =
      let user = configuration_shown m.update.net mean.update_is.old_is.bytes m.update.old mean.update_is.old_is.means in
      safe_rounds m.update m.plan.rounds user (ordered_of m.plan.evidence can.ordered) can.ends can.good none

pub promised : (files : Files) (names : CheckNames) (old new : Option (List ℕ)) (result : Status) → (IsComplete result → Answered IsExplainAnswer files (check_dialogue names) old new result) → ExplainPromise files names old new result
promised files names old new result answered = record {
  done = λ settled. judged_done (judges (check_meant files names) (answered settled));
  run = λ m mean is. run files names old new result (answered (settled_done _ is)) is m mean;
  shown = λ m mean is. shown files names old new result (answered (settled_done _ is)) is m mean;
  nothing = λ m mean is. nothing files names old new result (answered (settled_done _ is)) is m mean;
  nothing_only = λ m mean before told is line. nothing_only files names old new result (answered (settled_done _ is)) is m mean before told line;
  consistent = λ m mean before told is line.
      let a = answered (settled_done _ is) in
      consistent files names old new result a is m mean (nothing_only files names old new result a is m mean before told line);
  refusals = refusals (λ settled. judges (check_meant files names) (answered settled));
}
