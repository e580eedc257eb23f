use Rattle.std.proofs.Common.{arith}
use Rattle.flow_rules.specs.Tables.{rules_of_all}
use Rattle.update_model.specs.States.{first_state}
use Rattle.schedule_replay.proofs.RunLines.{lines_of_run}
use Rattle.schedule_replay.proofs.event_texts.runs_have_lines.Goals as goal

pub returns : goal.returns
returns c =
    let few = c.requires.few in
    lines_of_run c.args.net.now c.keeps_rules.ensures c.args.rounds.now c.requires.short (first_state (rules_of_all c.args.old.now)) c.args.events.now (omega arith) c.requires.run
