-- What a run of `drive` promises over the files of a source that tells.
use Rattle.std.specs.Prelude.{◌≡◌, ◌↔◌, ℕ, List, Option}
use Rattle.file_access.specs.Outside.{Files}
use Rattle.command_base.specs.declared.status.Status.{Status}
use Rattle.command_base.specs.declared.status.Status.TheVariants as status
use Rattle.command_base.specs.JudgedFiles.{RefusalPromise}
use Rattle.command_base.specs.Runs.{IsComplete}
use Rattle.check_base.specs.Checks.{IsReasonLine}
use Rattle.driver_input.specs.declared.inputs.InputLine.{InputLine}
use Rattle.drive_command.specs.Driving.{DifferInPieces}
use Rattle.drive_command.specs.Names.{DriveNames}
use Rattle.drive_command.specs.Driven.{DriveMeaning, FilesMeanDrive, FilesAreDriven, StartIsRefused, NamesRefusedStart, WritesReport, IsCertifiedDrive, drive_count}

-- the files and their names, what was written before and after the run, and how it ended
pub record DrivePromise (files : Files) (names : DriveNames) (old new : Option (List ℕ)) (result : Status) : Type 0 where
  -- Done comes exactly where the six files mean an update, a plan of it that is certified over at most 8192 classes, and inputs no start
  -- of which the driver refuses.
  pub done : IsComplete result → ((result ≡ status.Done) ↔ FilesAreDriven files names)
  -- Then the report was written on the driver that was made with the plan's rounds and given every input: what it sent to each switch,
  -- the sessions that failed, its log and how far it is. Read as a schedule, the report is the log, which is a run of the plan from the
  -- old tables, without packets. Behind its HELLO a switch was sent replies to the echo requests in the bytes that came from it, to each
  -- one in its order until its session failed, and the messages of the rounds that were begun, all of them, in their order and with their
  -- xids. While no round runs no barrier is outstanding, and each input begins at most the next round, and only where none is. So no
  -- round was begun before every barrier of the round before was answered (`CarriesOut`).
  pub report : (m : DriveMeaning) → FilesMeanDrive files names m → result ≡ status.Done → WritesReport m old new
  -- It is the report too on other inputs that differ from these only in the pieces in which the bytes come.
  pub pieces : (m : DriveMeaning) (inputs : List InputLine) → FilesMeanDrive files names m → DifferInPieces m.inputs inputs → result ≡ status.Done
      → WritesReport (record m { inputs = inputs }) old new
  -- NotARun comes exactly where a start of the inputs of a certified plan is refused; the line names that of the first one.
  pub not_a_run : IsComplete result → ((result ≡ status.NotARun) ↔ StartIsRefused files names)
  pub first_start : (m : DriveMeaning) → FilesMeanDrive files names m → result ≡ status.NotARun → NamesRefusedStart m old new
  -- Refused comes exactly where all files are read and the plan isn't certified, and the line names the first reason, as for `check` over
  -- the first five files.
  pub refusals : RefusalPromise (FilesMeanDrive files names) drive_count IsCertifiedDrive (λ m. IsReasonLine m.check) old new result
