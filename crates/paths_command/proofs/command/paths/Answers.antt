use Rattle.command_base.proofs.WholeLaws.{meets_early, meets_whole}
use Rattle.paths_command.proofs.command.paths.Goals as goal

pub returns-in_err-files-clause-meets : goal.returns-in_err-files-clause-meets
returns-in_err-files-clause-meets g c = meets_early (c.in_err-files.ensures.stops _) c.from_residual.ensures

pub returns-clause-meets : goal.returns-clause-meets
returns-clause-meets g c = meets_whole (c.in_ok-files.ensures.gives _) c.in_ok-files.ensures.whole c.say_paths-reply.ensures.said c.say_paths-reply.ensures.stops
