use Rattle.command_base.proofs.DialogueLaws.{leads_whole}
use Rattle.command_base.proofs.WholeLaws.{meets_early}
use Rattle.emit_command.proofs.command.emit.Goals as goal

pub returns-in_err-files-clause-meets : goal.returns-in_err-files-clause-meets
returns-in_err-files-clause-meets g c = meets_early (c.in_err-files.ensures.stops _) c.from_residual.ensures

pub returns-clause-meets : goal.returns-clause-meets
returns-clause-meets g c = record { met = leads_whole (c.in_ok-files.ensures.gives _) c.in_ok-emit_reply.ensures c.in_ok-files.ensures.whole }
