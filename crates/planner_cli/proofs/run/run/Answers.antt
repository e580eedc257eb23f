use Rattle.std.proofs.Common.{map, string_bytes, sym, subst}
use Rattle.std.specs.Prelude.{Option}
use Rattle.file_access.specs.Outside.{Files}
use Rattle.command_base.proofs.RunLaws.{answered_as, ends_at_once}
use Rattle.serve_command.specs.Serving.{IsServeEnd}
use Rattle.config_command.specs.Configs.{config_dialogue, IsConfigAnswer}
use Rattle.check_base.specs.Checks.{check_dialogue}
use Rattle.command_base.specs.Readings.{reading_update, reading_plan_files}
use Rattle.replay_command.specs.Replayed.{replay_dialogue, IsReplayAnswer}
use Rattle.tables_command.specs.Tabled.{tables_dialogue}
use Rattle.trace_command.specs.Traced.{trace_dialogue, IsTraceAnswer}
use Rattle.import_command.specs.Imported.{import_dialogue, IsImportAnswer}
use Rattle.drive_command.specs.Driven.{drive_dialogue, IsDriveAnswer}
use Rattle.paths_command.specs.Listed.{IsPathsAnswer}
use Rattle.check_command.specs.Checks.{IsCheckAnswer}
use Rattle.certify_command.specs.Answers.{IsCertifyAnswer}
use Rattle.plan_command.specs.Planned.{IsPlanned}
use Rattle.pack_command.specs.Packed.{IsPacked}
use Rattle.upgrade_command.specs.Texts.{IsUpgradeAnswer}
use Rattle.emit_command.specs.Answers.{IsEmitAnswer}
use Rattle.tables_command.specs.Listed.{IsTablesAnswer}
use Rattle.simulate_command.specs.Simulated.{IsSimulateAnswer}
use Rattle.explain_command.specs.Explained.{IsExplainAnswer}
use Rattle.sample_command.specs.Summaries.{SaysSummary}
use Rattle.planner_cli.specs.Commands.{Config, Paths, Check, Certify, Plan, Pack, Upgrade, Emit, Replay, Tables, Trace, Simulate, Explain, Import, Drive, Sample, OfConfig, OfPaths, OfCheck, OfCertify, OfPlan, OfPack, OfUpgrade, OfEmit, OfReplay, OfTables, OfTrace, OfSimulate, OfExplain, OfImport, OfDrive, OfSample, NamesNoFile, IsSaid}
use Rattle.planner_cli.proofs.Answered.{answered, unserved, ended}
use Rattle.planner_cli.proofs.run.run.Goals as goal

pub returns-clause-config : goal.returns-clause-config
returns-clause-config g c = λ files names tells asks.
    c.config_promised.ensures files names _ _ _ (λ settled.
    answered_as IsConfigAnswer IsSaid OfConfig files (config_dialogue names) _ _ _ (λ m answer said. said) (answered _ _ _ _ _ files (Config names) (c.respond.ensures.all (unserved (map string_bytes c.args.words.now) (Config names) asks (λ none. none)) settled) tells asks))

pub returns-clause-paths : goal.returns-clause-paths
returns-clause-paths g c = λ files names tells asks.
    c.paths_promised.ensures files names _ _ _ (λ settled.
    answered_as IsPathsAnswer IsSaid OfPaths files (config_dialogue names) _ _ _ (λ m answer said. said) (answered _ _ _ _ _ files (Paths names) (c.respond.ensures.all (unserved (map string_bytes c.args.words.now) (Paths names) asks (λ none. none)) settled) tells asks))

pub returns-clause-check : goal.returns-clause-check
returns-clause-check g c = λ files names tells asks.
    c.check_promised.ensures files names _ _ _ (λ settled.
    answered_as IsCheckAnswer IsSaid OfCheck files (check_dialogue names) _ _ _ (λ m answer said. said) (answered _ _ _ _ _ files (Check names) (c.respond.ensures.all (unserved (map string_bytes c.args.words.now) (Check names) asks (λ none. none)) settled) tells asks))

pub returns-clause-certify : goal.returns-clause-certify
returns-clause-certify g c = λ files names tells asks.
    c.certify_promised.ensures files names _ _ _ (λ settled.
    answered_as IsCertifyAnswer IsSaid OfCertify files (check_dialogue names) _ _ _ (λ m answer said. said) (answered _ _ _ _ _ files (Certify names) (c.respond.ensures.all (unserved (map string_bytes c.args.words.now) (Certify names) asks (λ none. none)) settled) tells asks))

pub returns-clause-plan : goal.returns-clause-plan
returns-clause-plan g c = λ files names tells asks.
    c.plan_promised.ensures files names _ _ _ (λ settled.
    answered_as IsPlanned IsSaid OfPlan files (reading_update names) _ _ _ (λ m answer said. said) (answered _ _ _ _ _ files (Plan names) (c.respond.ensures.all (unserved (map string_bytes c.args.words.now) (Plan names) asks (λ none. none)) settled) tells asks))

pub returns-clause-pack : goal.returns-clause-pack
returns-clause-pack g c = λ files names tells asks.
    c.pack_promised.ensures files names _ _ _ (λ settled.
    answered_as (IsPacked names.kind) IsSaid (OfPack names.kind) files (reading_update names.files) _ _ _ (λ m answer said. said) (answered _ _ _ _ _ files (Pack names) (c.respond.ensures.all (unserved (map string_bytes c.args.words.now) (Pack names) asks (λ none. none)) settled) tells asks))

pub returns-clause-upgrade : goal.returns-clause-upgrade
returns-clause-upgrade g c = λ files names tells asks.
    c.upgrade_promised.ensures files names _ _ _ (λ settled.
    answered_as IsUpgradeAnswer IsSaid OfUpgrade files (reading_plan_files names) _ _ _ (λ m answer said. said) (answered _ _ _ _ _ files (Upgrade names) (c.respond.ensures.all (unserved (map string_bytes c.args.words.now) (Upgrade names) asks (λ none. none)) settled) tells asks))

pub returns-clause-emit : goal.returns-clause-emit
returns-clause-emit g c = λ files names tells asks.
    c.emit_promised.ensures files names _ _ _ (λ settled.
    answered_as IsEmitAnswer IsSaid OfEmit files (reading_plan_files names) _ _ _ (λ m answer said. said) (answered _ _ _ _ _ files (Emit names) (c.respond.ensures.all (unserved (map string_bytes c.args.words.now) (Emit names) asks (λ none. none)) settled) tells asks))

pub returns-clause-replay : goal.returns-clause-replay
returns-clause-replay g c = λ files names tells asks.
    c.replay_promised.ensures files names _ _ _ (λ settled.
    answered_as IsReplayAnswer IsSaid OfReplay files (replay_dialogue names) _ _ _ (λ m answer said. said) (answered _ _ _ _ _ files (Replay names) (c.respond.ensures.all (unserved (map string_bytes c.args.words.now) (Replay names) asks (λ none. none)) settled) tells asks))

pub returns-clause-tables : goal.returns-clause-tables
returns-clause-tables g c = λ files names tells asks.
    c.tables_promised.ensures files names _ _ _ (λ settled.
    answered_as IsTablesAnswer IsSaid OfTables files (tables_dialogue names) _ _ _ (λ m answer said. said) (answered _ _ _ _ _ files (Tables names) (c.respond.ensures.all (unserved (map string_bytes c.args.words.now) (Tables names) asks (λ none. none)) settled) tells asks))

pub returns-clause-trace : goal.returns-clause-trace
returns-clause-trace g c = λ files names tells asks.
    c.trace_promised.ensures files names _ _ _ (λ settled.
    answered_as IsTraceAnswer IsSaid OfTrace files (trace_dialogue names) _ _ _ (λ m answer said. said) (answered _ _ _ _ _ files (Trace names) (c.respond.ensures.all (unserved (map string_bytes c.args.words.now) (Trace names) asks (λ none. none)) settled) tells asks))

pub returns-clause-simulate : goal.returns-clause-simulate
returns-clause-simulate g c = λ files names tells asks.
    c.simulate_promised.ensures files names _ _ _ (λ settled.
    answered_as (IsSimulateAnswer names.start names.count) IsSaid (OfSimulate names.start names.count) files (check_dialogue names.check) _ _ _ (λ m answer said. said) (answered _ _ _ _ _ files (Simulate names) (c.respond.ensures.all (unserved (map string_bytes c.args.words.now) (Simulate names) asks (λ none. none)) settled) tells asks))

pub returns-clause-explain : goal.returns-clause-explain
returns-clause-explain g c = λ files names tells asks.
    c.explain_promised.ensures files names _ _ _ (λ settled.
    answered_as IsExplainAnswer IsSaid OfExplain files (check_dialogue names) _ _ _ (λ m answer said. said) (answered _ _ _ _ _ files (Explain names) (c.respond.ensures.all (unserved (map string_bytes c.args.words.now) (Explain names) asks (λ none. none)) settled) tells asks))

pub returns-clause-import : goal.returns-clause-import
returns-clause-import g c = λ files names tells asks.
    c.import_promised.ensures files names _ _ _ (λ settled.
    answered_as IsImportAnswer IsSaid OfImport files (import_dialogue names) _ _ _ (λ m answer said. said) (answered _ _ _ _ _ files (Import names) (c.respond.ensures.all (unserved (map string_bytes c.args.words.now) (Import names) asks (λ none. none)) settled) tells asks))

pub returns-clause-drive : goal.returns-clause-drive
returns-clause-drive g c = λ files names tells asks.
    c.drive_promised.ensures files names _ _ _ (λ settled.
    answered_as IsDriveAnswer IsSaid OfDrive files (drive_dialogue names) _ _ _ (λ m answer said. said) (answered _ _ _ _ _ files (Drive names) (c.respond.ensures.all (unserved (map string_bytes c.args.words.now) (Drive names) asks (λ none. none)) settled) tells asks))

pub returns-clause-serve_promise : goal.returns-clause-serve_promise
returns-clause-serve_promise g c = λ files names tells asks.
    c.serve_promised.ensures files names _ _ _ _ _ _
    (subst (λ (held : Option Files). IsServeEnd held names (g.K.Sink.written c.args.sink.now) (g.K.Sink.written c.respond.new.sink) (g.S.Source.selected c.respond.new.source) (g.S.Source.taken c.respond.new.source) (g.S.SourceBeside.takes c.respond.new.source) c.respond.result) tells (c.respond.ensures.serve names asks))

pub returns-clause-sample : goal.returns-clause-sample
returns-clause-sample g c = λ n asks.
    c.sample_promised.ensures n _ _ _ _ _ _
    (ends_at_once SaysSummary IsSaid OfSample (λ m answer said. said) _ n _ _ _ _ _ (ended _ (map string_bytes c.args.words.now) _ _ _ _ _ (Sample n) (c.respond.ensures.ends (unserved (map string_bytes c.args.words.now) (Sample n) asks (λ none. none))) asks))
    (c.respond.ensures.no_read_fault (subst NamesNoFile (sym asks) (tt {0})))
