use Rattle.std.proofs.Common.{◌≡◌, take}
use Rattle.plan_text.specs.PlanText.{rules_of}
use Rattle.plan_text.specs.Uses.{with_uses}
use Rattle.plan_text.proofs.write_used.UsedRules.add_rounds.Given as goal

abbrev pub invariant-loop-k : goal.invariant-loop-k
invariant-loop-k l = l.self ≡ with_uses l.initial.self (rules_of (take l.k l.rounds))
