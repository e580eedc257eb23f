use Rattle.command_base.proofs.DialogueLaws.{gives_then, gives_end, ends_first, ends_then, hands_on}
use Rattle.tables_command.specs.Tabled.{tables_dialogue}
use Rattle.tables_command.proofs.files.read_tables_files.Goals as goal

pub returns-in_err-net-clause-stops : goal.returns-in_err-net-clause-stops
unfolding tables_dialogue
returns-in_err-net-clause-stops g c = hands_on _ _ _ (λ last. ends_first _ (c.in_err-net.ensures.stops last)) c.from_residual.ensures

pub returns-in-Err-clause-stops : goal.returns-in-Err-clause-stops
unfolding tables_dialogue
returns-in-Err-clause-stops g c = λ last.
    ends_then _ c.read_topology.ensures.held c.read_topology.ensures.later (c.in_ok-net.ensures.gives last)
    (ends_first _ (c.in-Err.ensures.stops _))

pub returns-in-Err-read_plan_file-clause-stops : goal.returns-in-Err-read_plan_file-clause-stops
unfolding tables_dialogue
returns-in-Err-read_plan_file-clause-stops g c = λ last.
    ends_then _ c.read_topology.ensures.held c.read_topology.ensures.later (c.in_ok-net.ensures.gives last)
    (ends_then _ c.read_configuration.ensures.held c.read_configuration.ensures.later (c.in-Ok.ensures.gives _)
    (ends_first _ (c.in-Err-read_plan_file.ensures.stops _)))

pub returns-in-Err-read_two_way_file-clause-stops :
    goal.returns-in-Err-read_two_way_file-clause-stops
unfolding tables_dialogue
returns-in-Err-read_two_way_file-clause-stops g c = λ last.
    ends_then _ c.read_topology.ensures.held c.read_topology.ensures.later (c.in_ok-net.ensures.gives last)
    (ends_then _ c.read_configuration.ensures.held c.read_configuration.ensures.later (c.in-Ok.ensures.gives _)
    (ends_then _ c.read_plan_file.ensures.held c.read_plan_file.ensures.later (c.in-Ok-read_plan_file.ensures.gives _)
    (ends_first _ (c.in-Err-read_two_way_file.ensures.stops _))))

pub returns-clause-gives : goal.returns-clause-gives
unfolding tables_dialogue
returns-clause-gives g c = λ last.
    gives_then _ c.read_topology.ensures.held (c.in_ok-net.ensures.gives last)
    (gives_then _ c.read_configuration.ensures.held (c.in-Ok.ensures.gives _)
    (gives_then _ c.read_plan_file.ensures.held (c.in-Ok-read_plan_file.ensures.gives _)
    (gives_then _ c.read_two_way_file.ensures.held (c.in-Ok-read_two_way_file.ensures.gives _)
    (gives_end _ _ _))))
