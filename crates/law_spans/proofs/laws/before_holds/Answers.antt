use Rattle.law_spans.proofs.Guarded.{timed_chains_met}
use Rattle.law_spans.proofs.laws.before_holds.Goals as goal

pub returns : goal.returns
returns c = timed_chains_met
