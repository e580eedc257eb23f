use Rattle.law_spans.proofs.Falling.{distinct_timed}
use Rattle.law_spans.proofs.laws.numbers_fall.Goals as goal

pub returns : goal.returns
returns c = distinct_timed
