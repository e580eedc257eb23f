use Rattle.std.proofs.Common.{sym, ◌∙◌, ap}
use Rattle.ordered_check.specs.Guarded.{GuardedState}
use Rattle.ordered_check.proofs.guarded.GuardedWalks.has_walks.Goals as goal

pub returns-clause-steps : goal.returns-clause-steps
returns-clause-steps c same = ap (λ (s : GuardedState). s.steps) (sym c.self.view_is) ∙ sym c.as_slice.ensures.value ∙ sym (c.has_noted.ensures.0 same).0

pub returns-clause-leaving : goal.returns-clause-leaving
returns-clause-leaving c same = ap (λ (s : GuardedState). s.leaving) (sym c.self.view_is) ∙ sym c.as_slice-2.ensures.value ∙ sym (c.has_noted.ensures.0 same).1
