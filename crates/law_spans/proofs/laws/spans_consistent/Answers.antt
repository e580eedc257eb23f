use Rattle.law_spans.proofs.Consistent.{consistent_with_waits}
use Rattle.law_spans.proofs.laws.spans_consistent.Goals as goal

pub returns : goal.returns
returns c = λ t evidence waits old_user new_user certified. consistent_with_waits t old_user new_user waits evidence certified
