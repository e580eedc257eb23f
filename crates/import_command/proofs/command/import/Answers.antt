use Rattle.command_base.proofs.DialogueLaws.{ends_first, meets_behind}
use Rattle.command_base.proofs.WholeLaws.{meets_early}
use Rattle.import_command.specs.Imported.{import_dialogue}
use Rattle.import_command.proofs.command.import.Goals as goal

pub returns-in_err-net-clause-meets : goal.returns-in_err-net-clause-meets
unfolding import_dialogue
returns-in_err-net-clause-meets g c = meets_early (ends_first _ (c.in_err-net.ensures.stops _)) c.from_residual.ensures

pub returns-clause-meets : goal.returns-clause-meets
unfolding import_dialogue
returns-clause-meets g c =
    meets_behind _ c.read_topology.ensures.held c.read_topology.ensures.later (c.in_ok-net.ensures.gives _) c.import_replies-reply.ensures.leads c.import_replies-reply.ensures.stops
