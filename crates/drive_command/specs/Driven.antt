-- What the files of `drive` mean, and what is said of them.
use Rattle.certificates.specs.Updates.{rollout}
use Rattle.std.specs.Prelude.{◌≡◌, ◌⊎◌, ℕ, ◌<◌, ◌≤◌, List, Option, None, Ok, Err}
use Rattle.std.specs.Io.KnownBytes.{Appends}
use Rattle.std.specs.List.{AllByRecursion}
use Rattle.file_access.specs.Outside.{Files}
use Rattle.net_base.specs.declared.ids.SwitchId.{SwitchId}
use Rattle.topology.specs.Networks.{Network, switch_count}
use Rattle.update_model.specs.Mixtures.{Rollout}
use Rattle.update_model.specs.Runs.{IsRun}
use Rattle.schedule_replay.specs.Schedules.{schedule_in, numbered_lines}
use Rattle.driver_input.specs.Faults as input_fault
use Rattle.driver_input.specs.Inputs.{inputs_in}
use Rattle.driver_input.specs.declared.fault.InputFault.{InputFault}
use Rattle.driver_input.specs.declared.inputs.InputLine.{InputLine}
use Rattle.update_driver.specs.Drivers.{DriverState}
use Rattle.update_driver.specs.Calls.{bytes_from}
use Rattle.update_driver.specs.Laws.{IsOfUpdate, SendsOnly, WaitsForBarriers, BeginsAnswered}
use Rattle.command_base.specs.declared.kinds.FileKind.TheVariants as kind
use Rattle.command_base.specs.declared.status.Status.TheVariants as status
use Rattle.command_base.specs.Answers.{Answer}
use Rattle.command_base.specs.Dialogues.{Dialogue, Ends, and_then}
use Rattle.command_base.specs.Judgements.{SaysTooMany, SaysWhyNot, most_classes}
use Rattle.command_base.specs.Lines.{FaultWords}
use Rattle.command_base.specs.Meanings.{IsReadAs}
use Rattle.command_base.specs.Readings.{reading}
use Rattle.check_base.specs.Checks.{CheckMeaning, FilesMeanPlan, IsCertifiedPlan, IsReasonLine, check_count, check_dialogue, task_in}
use Rattle.replay_command.specs.Replayed.{not_a_run_line}
use Rattle.drive_command.specs.declared.driving.DriveFault.{DriveFault}
use Rattle.drive_command.specs.declared.driving.DriveFault.TheVariants.{NotARun}
use Rattle.drive_command.specs.Driving.{driven_by, IsStep, calls_of}
use Rattle.drive_command.specs.Names.{DriveNames}
use Rattle.drive_command.specs.Reports.{first_line, report_text}

-- an update and a plan of it, and inputs
pub record DriveMeaning : Type 0 where
  pub check : CheckMeaning
  pub inputs : List InputLine

-- what is printed of a fault of inputs
abbrev pub input_words : InputFault → FaultWords
input_words f = record { number = input_fault.fault_number f; name = input_fault.fault_name f; field = None; place = input_fault.fault_place f }

-- reads inputs for the network
abbrev pub reading_input : Network → List ℕ → Dialogue (List InputLine)
reading_input net name = reading kind.Input input_words (inputs_in net) name

-- reads the inputs for a plan of an update
abbrev pub reading_inputs_for : CheckMeaning → List ℕ → Dialogue DriveMeaning
reading_inputs_for m name = and_then (reading_input m.update.net name) (λ inputs. Ends (record { check = m; inputs = inputs }))

-- reads an update, its plan and the inputs
unfoldable pub drive_dialogue : DriveNames → Dialogue DriveMeaning
drive_dialogue names = and_then (check_dialogue names.check) (λ m. reading_inputs_for m names.input)

-- The driver carries the update out as far as it is. Its log is a run of the update, without packets. To a switch it sent HELLO, and
-- then replies to the echo requests in the bytes that came from it and the messages of the rounds that were begun, all of them, in
-- their order and with their xids. While no round is running no barrier is outstanding; and each input begins at most the next
-- round, and only where no barrier is outstanding: no round was begun before every barrier of the round before was answered.
pub record CarriesOut (u : Rollout) (inputs : List InputLine) (d : DriverState) : Type 0 where
  pub run : IsRun u d.log
  pub no_packets : AllByRecursion IsOfUpdate d.log
  pub sends : (s : SwitchId) → s.0 < switch_count u.net → SendsOnly u.net u.rounds (bytes_from s (calls_of inputs)) d s
  pub waits : WaitsForBarriers d
  pub begins : (before after : DriverState) → IsStep u.net u.rounds inputs before after → BeginsAnswered before after

-- the text is the report on the driver that was made with the rounds and given all inputs; read as a schedule, it is the log, from the
-- first line behind those on the switches on
pub record IsReport (u : Rollout) (inputs : List InputLine) (text : List ℕ) : Type 0 where
  pub driver : DriverState
  pub driven : driven_by u.net u.rounds inputs ≡ Ok driver
  pub carries_out : CarriesOut u inputs driver
  pub text_is : text ≡ report_text u.net u.rounds driver
  pub means : schedule_in u.net text ≡ Ok (numbered_lines (first_line u.net driver) driver.log)

-- the driver is given all inputs, and the answer is the report on it
pub record SaysReport (u : Rollout) (inputs : List InputLine) (answer : Answer) : Type 0 where
  pub text : List ℕ
  pub report : IsReport u inputs text
  pub answer_is : answer ≡ record { status = status.Done; text = text }

-- a start is refused, and the answer names the line of the first one
pub record SaysRefusedStart (u : Rollout) (inputs : List InputLine) (answer : Answer) : Type 0 where
  pub line : ℕ
  pub refused : driven_by u.net u.rounds inputs ≡ Err (NotARun line)
  pub answer_is : answer ≡ record { status = status.NotARun; text = not_a_run_line line }

-- the answer on inputs of a plan that is certified
abbrev pub IsDriven : Rollout → List InputLine → Answer → Type 0
IsDriven u inputs answer = SaysReport u inputs answer ⊎ SaysRefusedStart u inputs answer

-- how many classes the update has by the plan
abbrev pub drive_count : DriveMeaning → ℕ
drive_count m = check_count m.check

-- the plan is certified
abbrev pub IsCertifiedDrive : DriveMeaning → Type 0
IsCertifiedDrive m = IsCertifiedPlan m.check

-- the plan is certified, over few enough classes, and the answer is that on the inputs
pub record SaysDriven (m : DriveMeaning) (answer : Answer) : Type 0 where
  pub few : drive_count m ≤ most_classes
  pub certified : IsCertifiedDrive m
  pub driven : IsDriven (rollout (task_in m.check)) m.inputs answer

-- the answer of `drive`: too many classes; over a certified plan, what its driver does with the inputs; or why the plan isn't certified
abbrev pub IsDriveAnswer : DriveMeaning → Answer → Type 0
IsDriveAnswer m answer =
    SaysTooMany (drive_count m) answer ⊎ (SaysDriven m answer ⊎ SaysWhyNot (drive_count m) (IsCertifiedDrive m) (IsReasonLine m.check) answer)

-- the files mean this update and plan, and these inputs
pub record FilesMeanDrive (files : Files) (names : DriveNames) (m : DriveMeaning) : Type 0 where
  pub check_is : FilesMeanPlan files names.check m.check
  pub input_is : IsReadAs files kind.Input (inputs_in m.check.update.net) names.input m.inputs

-- all files are read, there are few enough classes, and the plan is certified
pub record FilesAreDrivable (files : Files) (names : DriveNames) (m : DriveMeaning) : Type 0 where
  pub mean : FilesMeanDrive files names m
  pub few : drive_count m ≤ most_classes
  pub certified : IsCertifiedDrive m

-- the plan can be driven, and its driver takes all inputs
pub record FilesAreDriven (files : Files) (names : DriveNames) : Type 0 where
  pub meaning : DriveMeaning
  pub drivable : FilesAreDrivable files names meaning
  pub driver : DriverState
  pub driven : driven_by meaning.check.update.net meaning.check.plan.rounds meaning.inputs ≡ Ok driver

-- the plan can be driven, and a start is refused
pub record StartIsRefused (files : Files) (names : DriveNames) : Type 0 where
  pub meaning : DriveMeaning
  pub drivable : FilesAreDrivable files names meaning
  pub line : ℕ
  pub refused : driven_by meaning.check.update.net meaning.check.plan.rounds meaning.inputs ≡ Err (NotARun line)

-- a report was written
pub record WritesReport (m : DriveMeaning) (old new : Option (List ℕ)) : Type 0 where
  pub text : List ℕ
  pub report : IsReport (rollout (task_in m.check)) m.inputs text
  pub written : Appends old new text

-- the line that was written names the line of the first start that is refused
pub record NamesRefusedStart (m : DriveMeaning) (old new : Option (List ℕ)) : Type 0 where
  pub line : ℕ
  pub refused : driven_by m.check.update.net m.check.plan.rounds m.inputs ≡ Err (NotARun line)
  pub written : Appends old new (not_a_run_line line)
