use Rattle.law_spans.proofs.Labelled.{labelled_stay}
use Rattle.law_spans.proofs.laws.labels_hold.Goals as goal

pub returns : goal.returns
returns c = λ u new span evidence. labelled_stay u new evidence span
