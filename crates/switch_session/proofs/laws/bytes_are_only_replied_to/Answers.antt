use Rattle.switch_session.proofs.ByteLaws.{only_replies}
use Rattle.switch_session.proofs.laws.bytes_are_only_replied_to.Goals as goal

pub returns : goal.returns
returns c = only_replies
