use Rattle.std.proofs.Common.{take}
use Rattle.plan_text.specs.PlanText.{numbered_round_tree}
use Rattle.plan_text.specs.Tokens.{all_tokens, Adds}
use Rattle.plan_text.proofs.write.write_numbered_rounds.Given as goal

abbrev pub invariant-loop-k : goal.invariant-loop-k
invariant-loop-k l = Adds l.initial.out l.out (all_tokens (numbered_round_tree l.rules) (take l.k l.rounds))
