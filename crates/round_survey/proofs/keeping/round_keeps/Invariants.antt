use Rattle.update_model.specs.Changes.{rule_of}
use Rattle.update_model.specs.declared.Change.{Change}
use Rattle.certificates.specs.Certified.{KeepsVlan}
use Rattle.certificates.proofs.Chains.{AreUpTo}
use Rattle.round_survey.proofs.keeping.round_keeps.Given as goal

abbrev pub invariant-loop-change : goal.invariant-loop-change
invariant-loop-change l = AreUpTo (λ (d : Change). KeepsVlan (rule_of d).action) l.round l.change-index
