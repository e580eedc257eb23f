use Rattle.law_spans.proofs.Parts.{part_certified, ordered_part, safe_in_part}
use Rattle.law_spans.proofs.laws.sub_spans.Goals as goal

pub returns-clause-certified : goal.returns-clause-certified
returns-clause-certified c = part_certified

pub returns-clause-same_pick : goal.returns-clause-same_pick
returns-clause-same_pick c = λ u evidence part span is some n dst entry duties whole. ordered_part u evidence part span n dst entry duties is some whole

pub returns-clause-safe : goal.returns-clause-safe
returns-clause-safe c = λ u part span is dst entry duties numbers sets safe. safe_in_part u part span is dst entry duties numbers sets safe
