-- What the words of the command line ask for, and what the program says to it.
use Rattle.std.specs.Prelude.{◌≡◌, List, [], ◌∷◌, ℕ, codes, if◌then◌else◌, Option, None, Some, option_map}
use Rattle.std.specs.Str.{bytes_eq}
use Rattle.command_base.specs.declared.status.Status.TheVariants as status
use Rattle.command_base.specs.Answers.{Answer}
use Rattle.command_base.specs.Dialogues.{Dialogue, Ends, and_then}
use Rattle.config_command.specs.Names as config
use Rattle.check_base.specs.Names as check
use Rattle.command_base.specs.Names as base
use Rattle.pack_command.specs.Names as pack
use Rattle.replay_command.specs.Names as replay
use Rattle.trace_command.specs.Names as trace
use Rattle.simulate_command.specs.Names as simulate
use Rattle.import_command.specs.Names as imports
use Rattle.drive_command.specs.Names as drive
use Rattle.sample_command.specs.Sizes as sample
use Rattle.config_command.specs.Configs.{ConfigMeaning, config_dialogue, IsConfigAnswer}
use Rattle.check_base.specs.Checks.{CheckMeaning, check_dialogue}
use Rattle.certificates.specs.Updates.{Update}
use Rattle.command_base.specs.Readings.{reading_update, reading_plan_files}
use Rattle.command_base.specs.Updates.{PlanMeaning}
use Rattle.replay_command.specs.Replayed.{ReplayMeaning, replay_dialogue, IsReplayAnswer}
use Rattle.tables_command.specs.Tabled.{TablesMeaning, tables_dialogue}
use Rattle.trace_command.specs.Traced.{TraceMeaning, trace_dialogue, IsTraceAnswer}
use Rattle.import_command.specs.Imported.{ImportMeaning, import_dialogue, IsImportAnswer}
use Rattle.drive_command.specs.Driven.{DriveMeaning, drive_dialogue, IsDriveAnswer}
use Rattle.pack_command.specs.declared.names.PackKind.{PackKind}
use Rattle.paths_command.specs.Listed.{IsPathsAnswer}
use Rattle.check_command.specs.Checks.{IsCheckAnswer}
use Rattle.certify_command.specs.Answers.{IsCertifyAnswer}
use Rattle.plan_command.specs.Planned.{IsPlanned}
use Rattle.pack_command.specs.Packed.{IsPacked}
use Rattle.upgrade_command.specs.Texts.{IsUpgradeAnswer}
use Rattle.emit_command.specs.Answers.{IsEmitAnswer}
use Rattle.tables_command.specs.Listed.{IsTablesAnswer}
use Rattle.simulate_command.specs.Simulated.{IsSimulateAnswer}
use Rattle.explain_command.specs.Explained.{IsExplainAnswer}
use Rattle.serve_command.specs.Serving.{SaysRefusal}
use Rattle.sample_command.specs.Summaries.{SaysSummary}
use Rattle.planner_cli.specs.declared.command.Command.{Command}
use Rattle.planner_cli.specs.declared.command.Command.TheVariants as command
use Rattle.planner_cli.specs.declared.command.CommandName.{CommandName}
use Rattle.planner_cli.specs.declared.command.CommandName.TheVariants as command_name

-- a command, with the names of its files, or the number of switches of a sample
pub data Asked : Type 0 where
  Config : config.ConfigNames → Asked
  Paths : config.ConfigNames → Asked
  Check : check.CheckNames → Asked
  Certify : check.CheckNames → Asked
  Plan : base.UpdateNames → Asked
  Pack : pack.PackNames → Asked
  Upgrade : base.PlanNames → Asked
  Emit : base.PlanNames → Asked
  Replay : replay.ReplayNames → Asked
  Tables : replay.ReplayNames → Asked
  Trace : trace.TraceNames → Asked
  Simulate : simulate.SimulateNames → Asked
  Explain : check.CheckNames → Asked
  Import : imports.ImportNames → Asked
  Drive : drive.DriveNames → Asked
  Serve : check.CheckNames → Asked
  Sample : ℕ → Asked

-- the command of a name, if it is that of one
abbrev pub name_in : List ℕ → Option CommandName
name_in word =
    if bytes_eq word (codes "config") then Some command_name.Config
    else if bytes_eq word (codes "paths") then Some command_name.Paths
    else if bytes_eq word (codes "check") then Some command_name.Check
    else if bytes_eq word (codes "certify") then Some command_name.Certify
    else if bytes_eq word (codes "plan") then Some command_name.Plan
    else if bytes_eq word (codes "pack") then Some command_name.Pack
    else if bytes_eq word (codes "upgrade") then Some command_name.Upgrade
    else if bytes_eq word (codes "emit") then Some command_name.Emit
    else if bytes_eq word (codes "replay") then Some command_name.Replay
    else if bytes_eq word (codes "tables") then Some command_name.Tables
    else if bytes_eq word (codes "trace") then Some command_name.Trace
    else if bytes_eq word (codes "simulate") then Some command_name.Simulate
    else if bytes_eq word (codes "explain") then Some command_name.Explain
    else if bytes_eq word (codes "import") then Some command_name.Import
    else if bytes_eq word (codes "drive") then Some command_name.Drive
    else if bytes_eq word (codes "serve") then Some command_name.Serve
    else if bytes_eq word (codes "sample") then Some command_name.Sample
    else None

-- what the words after a command's name ask for; nothing where they are none of its forms
abbrev pub asked_by : CommandName → List (List ℕ) → Option Asked
asked_by command_name.Config words = option_map Config (config.names_in words)
asked_by command_name.Paths words = option_map Paths (config.names_in words)
asked_by command_name.Check words = option_map Check (check.names_in words)
asked_by command_name.Certify words = option_map Certify (check.names_in words)
asked_by command_name.Plan words = option_map Plan (base.update_names_in words)
asked_by command_name.Pack words = option_map Pack (pack.names_in words)
asked_by command_name.Upgrade words = option_map Upgrade (base.plan_names_in words)
asked_by command_name.Emit words = option_map Emit (base.plan_names_in words)
asked_by command_name.Replay words = option_map Replay (replay.names_in words)
asked_by command_name.Tables words = option_map Tables (replay.names_in words)
asked_by command_name.Trace words = option_map Trace (trace.names_in words)
asked_by command_name.Simulate words = option_map Simulate (simulate.names_in words)
asked_by command_name.Explain words = option_map Explain (check.names_in words)
asked_by command_name.Import words = option_map Import (imports.names_in words)
asked_by command_name.Drive words = option_map Drive (drive.names_in words)
asked_by command_name.Serve words = option_map Serve (check.names_in words)
asked_by command_name.Sample words = option_map Sample (sample.size_in words)

-- the same behind a name that is that of a command, or none
abbrev pub asked_under : Option CommandName → List (List ℕ) → Option Asked
asked_under None words = None
asked_under (Some name) words = asked_by name words

-- what the words after the program's name ask for; nothing where they are none of the listed forms
abbrev pub asked_command : List (List ℕ) → Option Asked
asked_command [] = None
asked_command (word ∷ words) = asked_under (name_in word) words

-- a command without where its names lie in memory
abbrev pub asked_view : Command → Asked
asked_view (command.Config names) = Config (config.names_seen names)
asked_view (command.Paths names) = Paths (config.names_seen names)
asked_view (command.Check names) = Check (check.names_seen names)
asked_view (command.Certify names) = Certify (check.names_seen names)
asked_view (command.Plan names) = Plan (base.names_seen names)
asked_view (command.Pack names) = Pack (pack.names_seen names)
asked_view (command.Upgrade names) = Upgrade (base.plan_names_seen names)
asked_view (command.Emit names) = Emit (base.plan_names_seen names)
asked_view (command.Replay names) = Replay (replay.names_seen names)
asked_view (command.Tables names) = Tables (replay.names_seen names)
asked_view (command.Trace names) = Trace (trace.names_seen names)
asked_view (command.Simulate names) = Simulate (simulate.names_seen names)
asked_view (command.Explain names) = Explain (check.names_seen names)
asked_view (command.Import names) = Import (imports.names_seen names)
asked_view (command.Drive names) = Drive (drive.names_seen names)
asked_view (command.Serve names) = Serve (check.names_seen names)
asked_view (command.Sample size) = Sample size.switches

-- of what a command says its answer
pub data Ending : Type 0 where
  OfConfig : ConfigMeaning → Ending
  OfPaths : ConfigMeaning → Ending
  OfCheck : CheckMeaning → Ending
  OfCertify : CheckMeaning → Ending
  OfPlan : Update → Ending
  OfPack : PackKind → Update → Ending
  OfUpgrade : PlanMeaning → Ending
  OfEmit : PlanMeaning → Ending
  OfReplay : ReplayMeaning → Ending
  OfTables : TablesMeaning → Ending
  OfTrace : TraceMeaning → Ending
  OfSimulate : ℕ → ℕ → CheckMeaning → Ending
  OfExplain : CheckMeaning → Ending
  OfImport : ImportMeaning → Ending
  OfDrive : DriveMeaning → Ending
  OfServe : CheckMeaning → Ending
  OfSample : ℕ → Ending
  OfUsage : Ending

-- on words that are none of the listed forms
abbrev pub usage_line : List ℕ
usage_line = codes "unknown command or wrong words\n"

-- what each command says of it; `serve` of a plan that it doesn't serve
abbrev pub IsSaid : Ending → Answer → Type 0
IsSaid (OfConfig m) answer = IsConfigAnswer m answer
IsSaid (OfPaths m) answer = IsPathsAnswer m answer
IsSaid (OfCheck m) answer = IsCheckAnswer m answer
IsSaid (OfCertify m) answer = IsCertifyAnswer m answer
IsSaid (OfPlan u) answer = IsPlanned u answer
IsSaid (OfPack kind u) answer = IsPacked kind u answer
IsSaid (OfUpgrade m) answer = IsUpgradeAnswer m answer
IsSaid (OfEmit m) answer = IsEmitAnswer m answer
IsSaid (OfReplay m) answer = IsReplayAnswer m answer
IsSaid (OfTables m) answer = IsTablesAnswer m answer
IsSaid (OfTrace m) answer = IsTraceAnswer m answer
IsSaid (OfSimulate start count m) answer = IsSimulateAnswer start count m answer
IsSaid (OfExplain m) answer = IsExplainAnswer m answer
IsSaid (OfImport m) answer = IsImportAnswer m answer
IsSaid (OfDrive m) answer = IsDriveAnswer m answer
IsSaid (OfServe m) answer = SaysRefusal m answer
IsSaid (OfSample n) answer = SaysSummary n answer
IsSaid OfUsage answer = answer ≡ record { status = status.Usage; text = usage_line }

-- the dialogue of a command
abbrev pub dialogue_of : Asked → Dialogue Ending
dialogue_of (Config names) = and_then (config_dialogue names) (λ m. Ends (OfConfig m))
dialogue_of (Paths names) = and_then (config_dialogue names) (λ m. Ends (OfPaths m))
dialogue_of (Check names) = and_then (check_dialogue names) (λ m. Ends (OfCheck m))
dialogue_of (Certify names) = and_then (check_dialogue names) (λ m. Ends (OfCertify m))
dialogue_of (Plan names) = and_then (reading_update names) (λ u. Ends (OfPlan u))
dialogue_of (Pack names) = and_then (reading_update names.files) (λ u. Ends (OfPack names.kind u))
dialogue_of (Upgrade names) = and_then (reading_plan_files names) (λ m. Ends (OfUpgrade m))
dialogue_of (Emit names) = and_then (reading_plan_files names) (λ m. Ends (OfEmit m))
dialogue_of (Replay names) = and_then (replay_dialogue names) (λ m. Ends (OfReplay m))
dialogue_of (Tables names) = and_then (tables_dialogue names) (λ m. Ends (OfTables m))
dialogue_of (Trace names) = and_then (trace_dialogue names) (λ m. Ends (OfTrace m))
dialogue_of (Simulate names) = and_then (check_dialogue names.check) (λ m. Ends (OfSimulate names.start names.count m))
dialogue_of (Explain names) = and_then (check_dialogue names) (λ m. Ends (OfExplain m))
dialogue_of (Import names) = and_then (import_dialogue names) (λ m. Ends (OfImport m))
dialogue_of (Drive names) = and_then (drive_dialogue names) (λ m. Ends (OfDrive m))
dialogue_of (Serve names) = and_then (check_dialogue names) (λ m. Ends (OfServe m))
dialogue_of (Sample n) = Ends (OfSample n)

-- the dialogue of what is asked for, if anything is
abbrev pub dialogue_on : Option Asked → Dialogue Ending
dialogue_on None = Ends OfUsage
dialogue_on (Some asked) = dialogue_of asked

-- the program's dialogue with its files on these words
unfoldable pub dialogue : List (List ℕ) → Dialogue Ending
dialogue words = dialogue_on (asked_command words)

-- a plan is to be served: then lines are answered one by one, and not the files by one text
abbrev pub AsksToServe : Option Asked → Type 0
AsksToServe None = ⊥
AsksToServe (Some (Serve names)) = Unit {0}
AsksToServe (Some other) = ⊥

-- no file is named, and none is read
abbrev pub NamesNoFile : Option Asked → Type 0
NamesNoFile None = Unit {0}
NamesNoFile (Some (Sample n)) = Unit {0}
NamesNoFile (Some other) = ⊥
