use Rattle.law_spans.proofs.Cuts.{fewest_ordered, fewest_two_phase}
use Rattle.law_spans.proofs.laws.fewest_waits.Goals as goal

pub returns-clause-ordered : goal.returns-clause-ordered
returns-clause-ordered c = fewest_ordered

pub returns-clause-two_phase : goal.returns-clause-two_phase
returns-clause-two_phase c = fewest_two_phase
