use Rattle.std.proofs.lemmas.List.{append_assoc}
use Rattle.switch_session.proofs.causes.cause_text.Goals as goal

pub returns-in_ok-format-in-Error : goal.returns-in_ok-format-in-Error
returns-in_ok-format-in-Error c = rw (c.in-Error.is, c.into_bytes.ensures.value, c.in_ok-format-in-Error.ensures.ok) (simp append_assoc)
