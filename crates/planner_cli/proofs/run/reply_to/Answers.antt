use Rattle.command_base.proofs.DialogueLaws.{meets_as}
use Rattle.command_base.proofs.WholeLaws.{meets_at_once}
use Rattle.planner_cli.specs.Commands.{IsSaid, OfConfig, OfPaths, OfCheck, OfCertify, OfPlan, OfPack, OfUpgrade, OfEmit, OfReplay, OfTables, OfTrace, OfSimulate, OfExplain, OfImport, OfDrive}
use Rattle.planner_cli.proofs.run.reply_to.Goals as goal

pub returns-in-Config-clause-meets : goal.returns-in-Config-clause-meets
returns-in-Config-clause-meets g c = rw c.in-Config.is (meets_as IsSaid OfConfig (λ m answer said. said) c.config.ensures.meets)

pub returns-in-Paths-clause-meets : goal.returns-in-Paths-clause-meets
returns-in-Paths-clause-meets g c = rw c.in-Paths.is (meets_as IsSaid OfPaths (λ m answer said. said) c.paths.ensures.meets)

pub returns-in-Check-clause-meets : goal.returns-in-Check-clause-meets
returns-in-Check-clause-meets g c = rw c.in-Check.is (meets_as IsSaid OfCheck (λ m answer said. said) c.check.ensures.meets)

pub returns-in-Certify-clause-meets : goal.returns-in-Certify-clause-meets
returns-in-Certify-clause-meets g c = rw c.in-Certify.is (meets_as IsSaid OfCertify (λ m answer said. said) c.certify.ensures.meets)

pub returns-in-Plan-clause-meets : goal.returns-in-Plan-clause-meets
returns-in-Plan-clause-meets g c = rw c.in-Plan.is (meets_as IsSaid OfPlan (λ m answer said. said) c.plan.ensures.meets)

pub returns-in-Pack-clause-meets : goal.returns-in-Pack-clause-meets
returns-in-Pack-clause-meets g c = rw c.in-Pack.is (meets_as IsSaid (OfPack c.in-Pack.names.kind) (λ m answer said. said) c.pack.ensures.meets)

pub returns-in-Upgrade-clause-meets : goal.returns-in-Upgrade-clause-meets
returns-in-Upgrade-clause-meets g c = rw c.in-Upgrade.is (meets_as IsSaid OfUpgrade (λ m answer said. said) c.upgrade.ensures.meets)

pub returns-in-Emit-clause-meets : goal.returns-in-Emit-clause-meets
returns-in-Emit-clause-meets g c = rw c.in-Emit.is (meets_as IsSaid OfEmit (λ m answer said. said) c.emit.ensures.meets)

pub returns-in-Replay-clause-meets : goal.returns-in-Replay-clause-meets
returns-in-Replay-clause-meets g c = rw c.in-Replay.is (meets_as IsSaid OfReplay (λ m answer said. said) c.replay.ensures.meets)

pub returns-in-Tables-clause-meets : goal.returns-in-Tables-clause-meets
returns-in-Tables-clause-meets g c = rw c.in-Tables.is (meets_as IsSaid OfTables (λ m answer said. said) c.tables.ensures.meets)

pub returns-in-Trace-clause-meets : goal.returns-in-Trace-clause-meets
returns-in-Trace-clause-meets g c = rw c.in-Trace.is (meets_as IsSaid OfTrace (λ m answer said. said) c.trace.ensures.meets)

pub returns-in-Simulate-clause-meets : goal.returns-in-Simulate-clause-meets
returns-in-Simulate-clause-meets g c = rw c.in-Simulate.is (meets_as IsSaid (OfSimulate c.in-Simulate.names.start c.in-Simulate.names.count) (λ m answer said. said) c.simulate.ensures.meets)

pub returns-in-Explain-clause-meets : goal.returns-in-Explain-clause-meets
returns-in-Explain-clause-meets g c = rw c.in-Explain.is (meets_as IsSaid OfExplain (λ m answer said. said) c.explain.ensures.meets)

pub returns-in-Import-clause-meets : goal.returns-in-Import-clause-meets
returns-in-Import-clause-meets g c = rw c.in-Import.is (meets_as IsSaid OfImport (λ m answer said. said) c.import.ensures.meets)

pub returns-in-Drive-clause-meets : goal.returns-in-Drive-clause-meets
returns-in-Drive-clause-meets g c = rw c.in-Drive.is (meets_as IsSaid OfDrive (λ m answer said. said) c.drive.ensures.meets)

pub returns-in-Sample-clause-meets : goal.returns-in-Sample-clause-meets
returns-in-Sample-clause-meets g c = rw c.in-Sample.is (meets_at_once c.sample.ensures.said c.sample.ensures.stops)
