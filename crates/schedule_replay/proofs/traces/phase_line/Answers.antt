use Rattle.std.proofs.lemmas.List.{append_assoc}
use Rattle.schedule_replay.proofs.traces.phase_line.Goals as goal

pub returns-in_ok-format-in-Settled : goal.returns-in_ok-format-in-Settled
returns-in_ok-format-in-Settled c = rw (c.in-Settled.is, c.into_bytes.ensures.value, c.in_ok-format-in-Settled.ensures.ok) (simp append_assoc)

pub returns-in_ok-format-in-Running : goal.returns-in_ok-format-in-Running
returns-in_ok-format-in-Running c = rw (c.in-Running.is, c.into_bytes-in-Running.ensures.value, c.in_ok-format-in-Running.ensures.ok) (simp append_assoc)
