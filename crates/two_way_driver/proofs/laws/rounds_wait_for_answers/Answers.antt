use Rattle.two_way_driver.proofs.RunLaws.{begins_answered}
use Rattle.two_way_driver.proofs.laws.rounds_wait_for_answers.Goals as goal

pub returns : goal.returns
returns c = λ net rounds inverses old calls good turnable ok. begins_answered net rounds inverses old good turnable calls ok
