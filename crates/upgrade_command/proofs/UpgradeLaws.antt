-- What a run of `upgrade` says of the files of a source that tells.
use Rattle.std.proofs.Common.{ℕ, List}
use Rattle.std.specs.declared.option.Option.{Option}
use Rattle.file_access.specs.Outside.{Files}
use Rattle.command_base.specs.declared.status.Status.{Status}
use Rattle.command_base.specs.Names.{PlanNames}
use Rattle.command_base.specs.Readings.{reading_plan_files}
use Rattle.command_base.specs.Updates.{PlanMeaning, FilesMeanOnePlan, WritesPlan}
use Rattle.command_base.specs.Runs.{IsComplete, Answered}
use Rattle.command_base.proofs.MeaningLaws.{plan_files_meant}
use Rattle.command_base.proofs.AnswerLaws.{SaysOfFiles, says_of_files, done_means, wrote, status_of, text_of}
use Rattle.command_base.proofs.RunLaws.{settled_done}
use Rattle.upgrade_command.specs.Texts.{IsUpgradeAnswer}
use Rattle.upgrade_command.specs.Promise.{UpgradePromise}

writes : (files : Files) (names : PlanNames) (old new : Option (List ℕ)) (result : Status) → SaysOfFiles (FilesMeanOnePlan files names) IsUpgradeAnswer old new result
    → (m : PlanMeaning) → FilesMeanOnePlan files names m → WritesPlan m.net m.plan old new
writes files names old new result r m mean =
    let says = r.said m mean in
    record { text = _; means = says.means; written = wrote r _ (text_of r.answer _ _ says.answer_is) }

pub promised : (files : Files) (names : PlanNames) (old new : Option (List ℕ)) (result : Status) → (IsComplete result → Answered IsUpgradeAnswer files (reading_plan_files names) old new result) → UpgradePromise files names old new result
promised files names old new result answered = record {
  done = λ settled. done_means (says_of_files (plan_files_meant files names) (answered settled)) (λ m says. status_of _ _ _ says.answer_is);
  same = λ m mean is. writes files names old new result (says_of_files (plan_files_meant files names) (answered (settled_done _ is))) m mean;
}
