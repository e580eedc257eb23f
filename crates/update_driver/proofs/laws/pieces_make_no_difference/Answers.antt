use Rattle.update_driver.proofs.PieceLaws.{fed-append, bytewise}
use Rattle.update_driver.proofs.laws.pieces_make_no_difference.Goals as goal

pub returns-clause-calls : goal.returns-clause-calls
returns-clause-calls c = bytewise

pub returns-clause-fed : goal.returns-clause-fed
returns-clause-fed c = fed-append
