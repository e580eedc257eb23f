use Rattle.switch_session.proofs.ByteLaws.{after_bytes-append}
use Rattle.switch_session.proofs.laws.pieces_make_no_difference.Goals as goal

pub returns : goal.returns
returns c = after_bytes-append
