use Rattle.update_driver.proofs.SentLaws.{sends_only}
use Rattle.update_driver.proofs.laws.only_replies_and_messages_are_sent.Goals as goal

pub returns : goal.returns
returns c = λ net rounds calls s drivable ok lt. sends_only net rounds drivable.plan calls ok s lt
