use Rattle.law_spans.proofs.SpanLaws.{span_of, one_span, longest_span}
use Rattle.law_spans.proofs.laws.one_span.Goals as goal

pub returns-clause-has : goal.returns-clause-has
returns-clause-has c = span_of

pub returns-clause-no_other : goal.returns-clause-no_other
returns-clause-no_other c = one_span

pub returns-clause-longest : goal.returns-clause-longest
returns-clause-longest c = longest_span
