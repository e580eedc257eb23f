use Rattle.two_way_driver.proofs.RunLaws.{says_run}
use Rattle.two_way_driver.proofs.laws.said_is_run.Goals as goal

pub returns : goal.returns
returns c = λ net rounds inverses old calls good turnable ok. says_run net rounds inverses old good turnable calls ok
