use Rattle.std.proofs.Common.{take}
use Rattle.plan_text.specs.PlanText.{round_tree}
use Rattle.plan_text.specs.Tokens.{all_tokens, Adds}
use Rattle.plan_text.proofs.write_changes.write_rounds.Given as goal

abbrev pub invariant-loop-k : goal.invariant-loop-k
invariant-loop-k l = Adds l.initial.out l.out (all_tokens (round_tree l.net) (take l.k l.rounds))
