use Rattle.std.proofs.lemmas.Result.{IfOk-weaker, IfErr-weaker}
use Rattle.command_base.proofs.DialogueLaws.{leads_then, ends_first, ends_for_memory, hands_on}
use Rattle.drive_command.proofs.command.drive_inputs.Goals as goal

pub returns-in_err-inputs-clause-stops : goal.returns-in_err-inputs-clause-stops
returns-in_err-inputs-clause-stops g c = hands_on _ _ _ (λ last. ends_first _ (c.in_err-inputs.ensures.stops last)) c.from_residual.ensures

pub returns-clause-leads : goal.returns-clause-leads
returns-clause-leads g c =
    IfOk-weaker c.say_driven-reply.result _ _
    (λ r said last. leads_then _ c.read_input_file.ensures.held (c.in_ok-inputs.ensures.gives last) (record { led = (said, c.in_ok-inputs.ensures.whole) }))
    c.say_driven-reply.ensures.said

pub returns-clause-stops : goal.returns-clause-stops
returns-clause-stops g c = IfErr-weaker c.say_driven-reply.result _ _ (λ e memory last. ends_for_memory memory) c.say_driven-reply.ensures.stops
