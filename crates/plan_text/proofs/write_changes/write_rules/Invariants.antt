use Rattle.std.proofs.Common.{take}
use Rattle.plan_text.specs.PlanText.{rule_tree}
use Rattle.plan_text.specs.Tokens.{all_tokens, Adds}
use Rattle.plan_text.proofs.write_changes.write_rules.Given as goal

abbrev pub invariant-loop-placed : goal.invariant-loop-placed
invariant-loop-placed l = Adds l.initial.out l.out (all_tokens (rule_tree l.net) (take l.placed-index l.rules))
