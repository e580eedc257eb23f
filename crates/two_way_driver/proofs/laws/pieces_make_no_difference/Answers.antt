use Rattle.two_way_driver.proofs.ServingLaws.{fed-append}
use Rattle.two_way_driver.proofs.laws.pieces_make_no_difference.Goals as goal

pub returns : goal.returns
returns c = λ s a b v. fed-append s a b v
