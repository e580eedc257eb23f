use Rattle.command_base.proofs.DialogueLaws.{gives_then, gives_end, ends_first, ends_then, hands_on}
use Rattle.check_base.specs.Checks.{check_dialogue}
use Rattle.check_base.proofs.check_files.read_check_files.Goals as goal

pub returns-in_err-update-clause-stops : goal.returns-in_err-update-clause-stops
unfolding check_dialogue
returns-in_err-update-clause-stops g c = hands_on _ _ _ (λ last. ends_first _ (c.in_err-update.ensures.stops last)) c.from_residual.ensures

pub returns-in-Err-clause-stops : goal.returns-in-Err-clause-stops
unfolding check_dialogue
returns-in-Err-clause-stops g c = λ last.
    ends_then _ c.read_update.ensures.held c.read_update.ensures.later (c.in_ok-update.ensures.gives last)
    (ends_first _ (c.in-Err.ensures.stops _))

pub returns-in-Ok-clause-gives : goal.returns-in-Ok-clause-gives
unfolding check_dialogue
returns-in-Ok-clause-gives g c = λ last.
    gives_then _ c.read_update.ensures.held (c.in_ok-update.ensures.gives last)
    (gives_then _ c.read_plan_file.ensures.held (c.in-Ok.ensures.gives _)
    (gives_end _ _ _))
