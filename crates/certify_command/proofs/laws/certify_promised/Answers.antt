use Rattle.certify_command.proofs.CertifyLaws.{promised}
use Rattle.certify_command.proofs.laws.certify_promised.Goals as goal

pub returns : goal.returns
returns c = λ files names old new result answered. promised files names old new result answered
