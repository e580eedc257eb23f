use Rattle.std.proofs.lemmas.List.{append_assoc}
use Rattle.check_command.proofs.accepted_line.accepted_line.Goals as goal

pub returns : goal.returns
returns c = rw (c.into_bytes.ensures.value, c.in_ok-format.ensures.ok, c.kind_word-kind.ensures) (simp append_assoc)
