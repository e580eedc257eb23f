use Rattle.flow_rules.specs.declared.rules.Rule.{Rule}
use Rattle.certificates.specs.Certified.{KeepsVlan}
use Rattle.certificates.proofs.Chains.{AreUpTo}
use Rattle.round_survey.proofs.keeping.table_keeps.Given as goal

abbrev pub invariant-loop-rule : goal.invariant-loop-rule
invariant-loop-rule l = AreUpTo (λ (r : Rule). KeepsVlan r.action) l.table.rules l.rule-index
