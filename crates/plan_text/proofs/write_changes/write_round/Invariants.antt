use Rattle.std.proofs.Common.{take}
use Rattle.plan_text.specs.PlanText.{change_tree}
use Rattle.plan_text.specs.Tokens.{all_tokens, Adds}
use Rattle.plan_text.proofs.write_changes.write_round.Given as goal

abbrev pub invariant-loop-change : goal.invariant-loop-change
invariant-loop-change l = Adds l.initial.out l.out (all_tokens (change_tree l.net) (take l.change-index l.round))
