use Rattle.std.proofs.Common.{ap, ◌∙◌}
use Rattle.net_base.specs.Lines.{text_of}
use Rattle.schedule_replay.specs.Traces.{trace_lines}
use Rattle.schedule_replay.proofs.TracesAgain.{marked_by_nothing}
use Rattle.schedule_replay.proofs.traces.traces_text.Goals as goal

pub returns : goal.returns
returns c = c.in_ok-add_traces.ensures ∙ rw c.new-text.ensures.items (ap text_of (marked_by_nothing (trace_lines c.args.net.now c.args.world.now)))
