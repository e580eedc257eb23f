use Rattle.std.proofs.Common.{take}
use Rattle.plan_text.specs.PlanText.{numbered_change_tree}
use Rattle.plan_text.specs.Tokens.{all_tokens, Adds}
use Rattle.plan_text.proofs.write.write_numbered_round.Given as goal

abbrev pub invariant-loop-change : goal.invariant-loop-change
invariant-loop-change l = Adds l.initial.out l.out (all_tokens (numbered_change_tree l.rules) (take l.change-index l.round))
