use Rattle.std.proofs.Common.{append_assoc}
use Rattle.sample_command.proofs.summary.update_part.Goals as goal

pub returns : goal.returns
returns c = rw (c.into_bytes.ensures.value, c.in_ok-format.ensures.ok) (simp append_assoc)
