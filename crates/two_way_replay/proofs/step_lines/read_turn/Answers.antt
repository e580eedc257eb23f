use Rattle.std.proofs.Common.{None, sym, ◌∙◌}
use Rattle.net_base.proofs.TextLines.{as_text, as_no_text}
use Rattle.two_way_replay.specs.StepLines.{spelled_turn}
use Rattle.two_way_replay.proofs.step_lines.read_turn.Goals as goal

pub returns-in-Ok : goal.returns-in-Ok
returns-in-Ok c = c.read_turn_text.ensures ∙ sym (as_text spelled_turn c.args.line.now None c.in-Ok.text.now c.in-Ok.ensures.cases.0 c.in-Ok.ensures.cases.1)

pub returns-in-Err : goal.returns-in-Err
returns-in-Err c = sym (as_no_text spelled_turn c.args.line.now None c.in-Err.ensures.cases.0)
