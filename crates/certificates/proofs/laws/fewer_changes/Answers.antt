use Rattle.certificates.proofs.Fewer.{round_of_fewer, safe_fewer}
use Rattle.certificates.proofs.laws.fewer_changes.Goals as goal

pub returns-clause-round : goal.returns-clause-round
returns-clause-round c = λ net demands classes tables fewer changes some. round_of_fewer net tables fewer changes some demands classes

pub returns-clause-evidence : goal.returns-clause-evidence
returns-clause-evidence c = safe_fewer
