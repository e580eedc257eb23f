use Rattle.std.proofs.Common.{Some}
use Rattle.command_base.specs.declared.kinds.FileKind.TheVariants as kind
use Rattle.command_base.specs.Dialogues.{file_read}
use Rattle.command_base.proofs.DialogueLaws.{gives_then, gives_end, ends_first, ends_then, hands_on}
use Rattle.config_command.specs.Configs.{config_dialogue}
use Rattle.config_command.proofs.files.read_config_files.Goals as goal

pub returns-in_err-net-clause-stops : goal.returns-in_err-net-clause-stops
unfolding config_dialogue
returns-in_err-net-clause-stops g c = hands_on _ _ _ (λ last. ends_first _ (c.in_err-net.ensures.stops last)) c.from_residual.ensures

pub returns-in-Err-clause-stops : goal.returns-in-Err-clause-stops
unfolding config_dialogue
returns-in-Err-clause-stops g c = λ last.
    ends_then _ c.read_topology.ensures.held c.read_topology.ensures.later (c.in_ok-net.ensures.gives last)
    (ends_first _ (c.in-Err.ensures.stops _))

pub returns-in-Err-read_policy-clause-stops : goal.returns-in-Err-read_policy-clause-stops
unfolding config_dialogue
returns-in-Err-read_policy-clause-stops g c = λ last.
    ends_then _ c.read_topology.ensures.held c.read_topology.ensures.later (c.in_ok-net.ensures.gives last)
    (ends_then _ c.read_configuration.ensures.held c.read_configuration.ensures.later (c.in-Ok.ensures.gives _)
    (ends_first _ (c.in-Err-read_policy.ensures.stops _)))

pub returns-clause-gives : goal.returns-clause-gives
unfolding config_dialogue
returns-clause-gives g c = λ last.
    gives_then _ c.read_topology.ensures.held (c.in_ok-net.ensures.gives last)
    (gives_then _ c.read_configuration.ensures.held (c.in-Ok.ensures.gives _)
    (gives_then _ c.read_policy.ensures.held (c.in-Ok-read_policy.ensures.gives _)
    (gives_end _ _ _)))

pub returns-clause-whole : goal.returns-clause-whole
returns-clause-whole g c = c.in-Ok-read_policy.ensures.whole (Some (file_read kind.Config c.args.names.now.config.now)) c.in-Ok.ensures.whole
