use Rattle.std.proofs.Common.{List, ap, ◌∙◌}
use Rattle.std.proofs.lemmas.Result.{IfOk-weaker}
use Rattle.update_model.specs.declared.Event.{Event}
use Rattle.schedule_replay.specs.Schedules.{schedule_in}
use Rattle.schedule_replay.specs.Traces.{record_text}
use Rattle.schedule_replay.proofs.TracesAgain.{record_again}
use Rattle.schedule_replay.proofs.traces.record_text.Goals as goal

pub returns-clause-again : goal.returns-clause-again
returns-clause-again c =
    IfOk-weaker c.record_of.result _ _
    (λ t e. ap (schedule_in c.args.net.now) (e ∙ ap (λ (es : List Event). record_text c.args.net.now es c.args.world.now) c.list.ensures)
    ∙ record_again c.args.net.now c.keeps_rules.ensures c.args.events.now c.args.world.now c.requires.lines c.requires.few)
    c.record_of.ensures
