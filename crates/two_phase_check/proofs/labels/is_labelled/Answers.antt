use Rattle.std.proofs.Common.{rules}
use Rattle.two_phase_check.proofs.AgreeLaws.{any_is_in}
use Rattle.two_phase_check.proofs.labels.is_labelled.Goals as goal

pub returns : goal.returns
returns c = any_is_in _ c.args.label c.args.labels.now _ c.contains.ensures.value (λ y e. search rules) (search rules)
