use Rattle.update_driver.proofs.LogLaws.{waits_for_barriers}
use Rattle.update_driver.proofs.SoundLaws.{begins_answered}
use Rattle.update_driver.proofs.laws.rounds_wait_for_barriers.Goals as goal

pub returns-clause-settled : goal.returns-clause-settled
returns-clause-settled c = waits_for_barriers

pub returns-clause-begins : goal.returns-clause-begins
returns-clause-begins c = begins_answered
