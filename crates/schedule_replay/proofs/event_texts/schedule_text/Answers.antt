use Rattle.std.proofs.Common.{ap, ◌∙◌}
use Rattle.std.proofs.lemmas.Result.{IfOk-weaker}
use Rattle.schedule_replay.specs.EventTexts.{schedule_text}
use Rattle.schedule_replay.specs.Schedules.{schedule_in}
use Rattle.schedule_replay.proofs.EventsAgain.{schedule_again}
use Rattle.schedule_replay.proofs.event_texts.schedule_text.Goals as goal

pub returns-clause-again : goal.returns-clause-again
returns-clause-again c =
    IfOk-weaker c.events_text.result _ _
    (λ t e. ap (schedule_in c.args.net.now) (e ∙ ap (schedule_text c.args.net.now) c.list.ensures) ∙ schedule_again c.args.net.now c.keeps_rules.ensures c.args.events.now c.requires.lines c.requires.few)
    c.events_text.ensures
