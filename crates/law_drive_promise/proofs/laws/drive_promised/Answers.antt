use Rattle.law_drive_promise.proofs.PromiseLaws.{promised}
use Rattle.law_drive_promise.proofs.laws.drive_promised.Goals as goal

pub returns : goal.returns
returns c = λ files names old new result answered. promised files names old new result answered
