use Rattle.two_way_driver.proofs.SendingLaws.{each_call, none_to_dead, all_calls}
use Rattle.two_way_driver.proofs.XidLaws.{goes_on}
use Rattle.two_way_driver.proofs.sending.what_is_sent.Goals as goal

pub returns-clause-each : goal.returns-clause-each
returns-clause-each c = λ net rounds inverses calls call s ok less. each_call net rounds inverses calls call s ok less

pub returns-clause-whole : goal.returns-clause-whole
returns-clause-whole c = λ net rounds inverses calls s less. all_calls s net rounds inverses calls less

pub returns-clause-dead : goal.returns-clause-dead
returns-clause-dead c = λ net rounds inverses calls call s ok less. none_to_dead net rounds inverses calls call s ok less

pub returns-clause-xids : goal.returns-clause-xids
returns-clause-xids c = λ v call. goes_on v call
