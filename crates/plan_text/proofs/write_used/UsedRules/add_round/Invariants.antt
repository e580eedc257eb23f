use Rattle.std.proofs.Common.{◌≡◌, take, map}
use Rattle.plan_text.specs.PlanText.{plan_rule_of}
use Rattle.plan_text.specs.Uses.{with_uses}
use Rattle.plan_text.proofs.write_used.UsedRules.add_round.Given as goal

abbrev pub invariant-loop-change : goal.invariant-loop-change
invariant-loop-change l = l.self ≡ with_uses l.initial.self (map plan_rule_of (take l.change-index l.round))
