use Rattle.command_base.proofs.DialogueLaws.{gives_then, gives_end, ends_first, ends_then, hands_on}
use Rattle.trace_command.specs.Traced.{trace_dialogue}
use Rattle.trace_command.proofs.files.read_trace_files.Goals as goal

pub returns-in_err-net-clause-stops : goal.returns-in_err-net-clause-stops
unfolding trace_dialogue
returns-in_err-net-clause-stops g c = hands_on _ _ _ (λ last. ends_first _ (c.in_err-net.ensures.stops last)) c.from_residual.ensures

pub returns-in-Err-clause-stops : goal.returns-in-Err-clause-stops
unfolding trace_dialogue
returns-in-Err-clause-stops g c = λ last.
    ends_then _ c.read_topology.ensures.held c.read_topology.ensures.later (c.in_ok-net.ensures.gives last)
    (ends_first _ (c.in-Err.ensures.stops _))

pub returns-in-Ok-clause-gives : goal.returns-in-Ok-clause-gives
unfolding trace_dialogue
returns-in-Ok-clause-gives g c = λ last.
    gives_then _ c.read_topology.ensures.held (c.in_ok-net.ensures.gives last)
    (gives_then _ c.read_configuration.ensures.held (c.in-Ok.ensures.gives _)
    (gives_end _ _ _))
