use Rattle.std.proofs.Common.{◌≡◌, ◌++◌, drop}
use Rattle.schedule_replay.specs.EventTexts.{schedule_text}
use Rattle.schedule_replay.proofs.event_texts.add_events.Given as goal

abbrev pub invariant-loop-event : goal.invariant-loop-event
invariant-loop-event l = l.text.items ++ schedule_text l.net (drop l.event-index l.events) ≡ l.initial.text.items ++ schedule_text l.net l.events
