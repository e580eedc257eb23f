use Rattle.command_base.specs.Readings.{reading_plan_files}
use Rattle.command_base.proofs.DialogueLaws.{gives_then, gives_end, ends_first, ends_then, hands_on}
use Rattle.command_base.proofs.plan_files.read_plan_files.Goals as goal

pub returns-in_err-net-clause-stops : goal.returns-in_err-net-clause-stops
unfolding reading_plan_files
returns-in_err-net-clause-stops g c = hands_on _ _ _ (λ last. ends_first _ (c.in_err-net.ensures.stops last)) c.from_residual.ensures

pub returns-in-Err-clause-stops : goal.returns-in-Err-clause-stops
unfolding reading_plan_files
returns-in-Err-clause-stops g c = λ last.
    ends_then _ c.read_topology.ensures.held c.read_topology.ensures.later (c.in_ok-net.ensures.gives last)
    (ends_first _ (c.in-Err.ensures.stops _))

pub returns-in-Ok-clause-gives : goal.returns-in-Ok-clause-gives
unfolding reading_plan_files
returns-in-Ok-clause-gives g c = λ last.
    gives_then _ c.read_topology.ensures.held (c.in_ok-net.ensures.gives last)
    (gives_then _ c.read_plan_file.ensures.held (c.in-Ok.ensures.gives _)
    (gives_end _ _ _))
