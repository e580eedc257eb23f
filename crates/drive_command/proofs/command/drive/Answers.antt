use Rattle.command_base.proofs.DialogueLaws.{ends_first, meets_behind}
use Rattle.command_base.proofs.WholeLaws.{meets_early}
use Rattle.drive_command.specs.Driven.{drive_dialogue}
use Rattle.drive_command.proofs.command.drive.Goals as goal

pub returns-in_err-files-clause-meets : goal.returns-in_err-files-clause-meets
unfolding drive_dialogue
returns-in_err-files-clause-meets g c = meets_early (ends_first _ (c.in_err-files.ensures.stops _)) c.from_residual.ensures

pub returns-clause-meets : goal.returns-clause-meets
unfolding drive_dialogue
returns-clause-meets g c =
    meets_behind _ c.read_check_files.ensures.held c.read_check_files.ensures.later (c.in_ok-files.ensures.gives _) c.drive_inputs-reply.ensures.leads c.drive_inputs-reply.ensures.stops
