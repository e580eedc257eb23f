use Rattle.two_way_driver.proofs.ReplyLaws.{only_reply}
use Rattle.two_way_driver.proofs.laws.only_replies_are_forgotten.Goals as goal

pub returns : goal.returns
returns c = λ b channel quiet. only_reply b channel quiet
