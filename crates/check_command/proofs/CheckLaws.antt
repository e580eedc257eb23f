-- What a run of `check` says of the files of a source that tells.
use Rattle.std.proofs.Common.{ℕ, List}
use Rattle.std.specs.declared.option.Option.{Option}
use Rattle.file_access.specs.Outside.{Files}
use Rattle.command_base.specs.declared.status.Status.{Status}
use Rattle.command_base.specs.Runs.{IsComplete, Answered}
use Rattle.command_base.proofs.JudgementLaws.{judges, judged_done, judged_then, refusals}
use Rattle.command_base.proofs.RunLaws.{settled_done}
use Rattle.check_base.specs.Names.{CheckNames}
use Rattle.check_base.specs.Checks.{check_dialogue}
use Rattle.check_base.proofs.FileLaws.{check_meant}
use Rattle.check_command.specs.Checks.{IsCheckAnswer}
use Rattle.check_command.specs.Promise.{CheckPromise}

pub promised : (files : Files) (names : CheckNames) (old new : Option (List ℕ)) (result : Status) → (IsComplete result → Answered IsCheckAnswer files (check_dialogue names) old new result) → CheckPromise files names old new result
promised files names old new result answered = record {
  done = λ settled. judged_done (judges (check_meant files names) (answered settled));
  keeps = λ m mean is. judged_then (judges (check_meant files names) (answered (settled_done _ is))) is m mean;
  refusals = refusals (λ settled. judges (check_meant files names) (answered settled));
}
