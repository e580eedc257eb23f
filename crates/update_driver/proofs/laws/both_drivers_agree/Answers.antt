use Rattle.update_driver.proofs.AgreeLaws.{both_agree}
use Rattle.update_driver.proofs.laws.both_drivers_agree.Goals as goal

pub returns : goal.returns
returns c = λ net rounds inverses calls drivable ok. both_agree net rounds inverses drivable calls ok
