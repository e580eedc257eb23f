-- What a run of `simulate` says of the files of a source that tells.
use Rattle.std.proofs.Common.{◌≡◌, ℕ, List}
use Rattle.std.specs.declared.option.Option.{Option}
use Rattle.file_access.specs.Outside.{Files}
use Rattle.command_base.specs.declared.status.Status.{Status}
use Rattle.command_base.specs.declared.status.Status.TheVariants as status
use Rattle.command_base.specs.Runs.{IsComplete, Answered}
use Rattle.command_base.proofs.JudgementLaws.{judges, judged_done, judged_then, refusals}
use Rattle.command_base.proofs.RunLaws.{settled_done}
use Rattle.check_base.specs.Checks.{CheckMeaning, check_dialogue, FilesMeanPlan}
use Rattle.check_base.proofs.FileLaws.{check_meant}
use Rattle.simulate_command.specs.Names.{SimulateNames}
use Rattle.simulate_command.specs.Simulated.{IsSimulateAnswer, WritesRecord}
use Rattle.simulate_command.specs.Promise.{SimulatePromise}

-- the record of a simulation was written
writes : (files : Files) (names : SimulateNames) (old new : Option (List ℕ)) (result : Status) → Answered (IsSimulateAnswer names.start names.count) files (check_dialogue names.check) old new result
    → result ≡ status.Done → (m : CheckMeaning) → FilesMeanPlan files names.check m → WritesRecord names.start names.count m old new
writes files names old new result a is m mean = record {
  text = a.answer.text;
  record_of = judged_then (judges (check_meant files names.check) a) is m mean;
  written = a.written;
}

pub promised : (files : Files) (names : SimulateNames) (old new : Option (List ℕ)) (result : Status)
    → (IsComplete result → Answered (IsSimulateAnswer names.start names.count) files (check_dialogue names.check) old new result) → SimulatePromise files names old new result
promised files names old new result answered = record {
  done = λ settled. judged_done (judges (check_meant files names.check) (answered settled));
  run = λ m mean is. writes files names old new result (answered (settled_done _ is)) is m mean;
  refusals = refusals (λ settled. judges (check_meant files names.check) (answered settled));
}
