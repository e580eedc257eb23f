-- What a run of `drive` says of the files of a source that tells.
use Rattle.certificates.specs.Updates.{rollout}
use Rattle.std.proofs.Common.{◌≡◌, ◌≢◌, ◌↔◌, ℕ, List, refl, sym, ◌∙◌, subst, inl, inr}
use Rattle.std.specs.declared.option.Option.{Option}
use Rattle.file_access.specs.Outside.{Files}
use Rattle.driver_input.specs.Inputs.{inputs_in}
use Rattle.command_base.specs.declared.status.Status.{Status}
use Rattle.command_base.specs.declared.status.Status.TheVariants as status
use Rattle.command_base.specs.declared.kinds.FileKind.TheVariants as kind
use Rattle.command_base.specs.Answers.{Answer}
use Rattle.command_base.specs.Meanings.{Means}
use Rattle.command_base.specs.Runs.{IsComplete, Answered}
use Rattle.command_base.proofs.MeaningLaws.{MeansOnly, means_then, means_parts, means_read, read_means}
use Rattle.command_base.proofs.AnswerLaws.{meant, wrote, status_of, text_of}
use Rattle.command_base.proofs.JudgementLaws.{SaysOfGood, JudgesFiles, judges_by, says_of, says_good, refusals}
use Rattle.command_base.proofs.RunLaws.{settled_done, settled_not_a_run}
use Rattle.check_base.specs.Checks.{IsReasonLine, task_in}
use Rattle.check_base.proofs.FileLaws.{means_check, check_means}
use Rattle.driver_input.specs.declared.inputs.InputLine.{InputLine}
use Rattle.replay_command.specs.Replayed.{not_a_run_line}
use Rattle.drive_command.specs.Driving.{DifferInPieces}
use Rattle.drive_command.specs.Names.{DriveNames}
use Rattle.drive_command.specs.Driven.{DriveMeaning, drive_dialogue, input_words, drive_count, IsCertifiedDrive, SaysReport, SaysRefusedStart, IsDriven, SaysDriven, IsDriveAnswer, FilesMeanDrive, FilesAreDrivable, FilesAreDriven, StartIsRefused, WritesReport, NamesRefusedStart}
use Rattle.drive_command.specs.Promise.{DrivePromise}
use Rattle.drive_command.proofs.CarriedLaws.{report_pieces}

-- the dialogue means what the files mean, and nothing else
means_drive : (files : Files) (names : DriveNames) (m : DriveMeaning) → FilesMeanDrive files names m → Means files (drive_dialogue names) m
unfolding drive_dialogue
means_drive files names m is =
    means_then files _ _ m.check m (means_check files names.check m.check is.check_is)
    (means_then files _ _ m.inputs m (means_read files kind.Input input_words (inputs_in m.check.update.net) names.input m.inputs is.input_is) refl)

drive_means : (files : Files) (names : DriveNames) (m : DriveMeaning) → Means files (drive_dialogue names) m → FilesMeanDrive files names m
unfolding drive_dialogue
drive_means files names m means =
    let (check, check_is, second) = means_parts files _ _ m means in
    let (inputs, input_is, same) = means_parts files _ _ m second in
    let read : FilesMeanDrive files names (record { check = check; inputs = inputs }) = record {
      check_is = check_means files names.check check check_is;
      input_is = read_means files kind.Input input_words (inputs_in check.update.net) names.input inputs input_is;
    } in
    subst (λ v. FilesMeanDrive files names v) same read

drive_meant : (files : Files) (names : DriveNames) → MeansOnly files (drive_dialogue names) (FilesMeanDrive files names)
drive_meant files names = record { means = means_drive files names; only = drive_means files names }

-- what is said of the inputs of a certified plan
module _ (m : DriveMeaning) (answer : Answer) where
  abbrev Report : Type 0
  Report = SaysReport (rollout (task_in m.check)) m.inputs answer

  abbrev Stop : Type 0
  Stop = SaysRefusedStart (rollout (task_in m.check)) m.inputs answer

  driven_good : SaysDriven m answer → SaysOfGood (drive_count m) (IsCertifiedDrive m) answer
  driven_good v = elim v.driven [
    | inl report ↦ (let e = status_of answer _ _ report.answer_is in record { few = v.few; holds = v.certified; not_refused = λ is. cc; not_bad = λ is. cc })
    | inr stop ↦ (let e = status_of answer _ _ stop.answer_is in record { few = v.few; holds = v.certified; not_refused = λ is. cc; not_bad = λ is. cc })
  ]

  report_says : SaysDriven m answer → answer.status ≡ status.Done → Report
  report_says v is = elim v.driven [
    | inl report ↦ report
    | inr stop ↦ absurd (let e = status_of answer _ _ stop.answer_is in cc)
  ]

  stop_says : SaysDriven m answer → answer.status ≡ status.NotARun → Stop
  stop_says v is = elim v.driven [
    | inl report ↦ absurd (let e = status_of answer _ _ report.answer_is in cc)
    | inr stop ↦ stop
  ]

judges_drive : (files : Files) (names : DriveNames) (old new : Option (List ℕ)) (result : Status) → Answered IsDriveAnswer files (drive_dialogue names) old new result
    → JudgesFiles (FilesMeanDrive files names) drive_count IsCertifiedDrive SaysDriven (λ m. IsReasonLine m.check) old new result
judges_drive files names old new result a = judges_by (drive_meant files names) a (λ m answer says. says) driven_good

-- of a settled run of `drive` over a source that tells
module _ (files : Files) (names : DriveNames) (old new : Option (List ℕ)) (result : Status)
    (j : JudgesFiles (FilesMeanDrive files names) drive_count IsCertifiedDrive SaysDriven (λ m. IsReasonLine m.check) old new result) where
  driven : (m : DriveMeaning) → FilesMeanDrive files names m → result ≢ status.BadFile → result ≢ status.Refused → SaysDriven m j.run.answer
  driven m mean other certified = says_of j m mean other certified

  answer_of : (m : DriveMeaning) → FilesAreDrivable files names m → IsDriven (rollout (task_in m.check)) m.inputs j.run.answer
  answer_of m can = (says_good j m can.mean can.few can.certified).driven

  drivable : (m : DriveMeaning) → FilesMeanDrive files names m → SaysDriven m j.run.answer → FilesAreDrivable files names m
  drivable m mean v = record { mean = mean; few = v.few; certified = v.certified }

  reported : result ≡ status.Done → (m : DriveMeaning) → FilesMeanDrive files names m → SaysReport (rollout (task_in m.check)) m.inputs j.run.answer
  reported is m mean = report_says m j.run.answer (driven m mean (λ e. cc) (λ e. cc)) (j.run.status_is ∙ is)

  stopped : result ≡ status.NotARun → (m : DriveMeaning) → FilesMeanDrive files names m → SaysRefusedStart (rollout (task_in m.check)) m.inputs j.run.answer
  stopped is m mean = stop_says m j.run.answer (driven m mean (λ e. cc) (λ e. cc)) (j.run.status_is ∙ is)

  done : (result ≡ status.Done) ↔ FilesAreDriven files names
  done = (
    λ is.
        let (m, mean) = meant j.run status.Done (λ e. cc) is in
        let v = reported is m mean in
        record { meaning = m; drivable = drivable m mean (driven m mean (λ e. cc) (λ e. cc)); driver = v.report.driver; driven = v.report.driven },
    λ h. elim (answer_of h.meaning h.drivable) [
      | inl report ↦ sym j.run.status_is ∙ status_of j.run.answer _ _ report.answer_is
      | inr stop ↦ absurd (let e = sym h.driven ∙ stop.refused in cc)
    ],
  )

  report : result ≡ status.Done → (m : DriveMeaning) → FilesMeanDrive files names m → WritesReport m old new
  report is m mean =
      let v = reported is m mean in
      record { text = v.text; report = v.report; written = wrote j.run v.text (text_of j.run.answer _ _ v.answer_is) }

  not_a_run : (result ≡ status.NotARun) ↔ StartIsRefused files names
  not_a_run = (
    λ is.
        let (m, mean) = meant j.run status.NotARun (λ e. cc) is in
        let v = stopped is m mean in
        record { meaning = m; drivable = drivable m mean (driven m mean (λ e. cc) (λ e. cc)); line = v.line; refused = v.refused },
    λ h. elim (answer_of h.meaning h.drivable) [
      | inl report ↦ absurd (let e = sym report.report.driven ∙ h.refused in cc)
      | inr stop ↦ sym j.run.status_is ∙ status_of j.run.answer _ _ stop.answer_is
    ],
  )

  first_start : result ≡ status.NotARun → (m : DriveMeaning) → FilesMeanDrive files names m → NamesRefusedStart m old new
  first_start is m mean =
      let v = stopped is m mean in
      record { line = v.line; refused = v.refused; written = wrote j.run (not_a_run_line v.line) (text_of j.run.answer _ _ v.answer_is) }

-- a report was written, so it is that on inputs that differ in pieces
other_pieces : (m : DriveMeaning) (inputs : List InputLine) (old new : Option (List ℕ)) → DifferInPieces m.inputs inputs → WritesReport m old new → WritesReport (record m { inputs = inputs }) old new
other_pieces m inputs old new differ writes = record { text = writes.text; report = report_pieces (rollout (task_in m.check)) m.inputs inputs writes.text differ writes.report; written = writes.written }

pub promised : (files : Files) (names : DriveNames) (old new : Option (List ℕ)) (result : Status) → (IsComplete result → Answered IsDriveAnswer files (drive_dialogue names) old new result) → DrivePromise files names old new result
promised files names old new result answered =
    let judges : IsComplete result → JudgesFiles (FilesMeanDrive files names) drive_count IsCertifiedDrive SaysDriven (λ m. IsReasonLine m.check) old new result =
    λ settled. judges_drive files names old new result (answered settled) in
    record {
      done = λ settled. done files names old new result (judges settled);
      report = λ m mean is. report files names old new result (judges (settled_done _ is)) is m mean;
      pieces = λ m inputs mean differ is. other_pieces m inputs old new differ (report files names old new result (judges (settled_done _ is)) is m mean);
      not_a_run = λ settled. not_a_run files names old new result (judges settled);
      first_start = λ m mean is. first_start files names old new result (judges (settled_not_a_run _ is)) is m mean;
      refusals = refusals judges;
    }
