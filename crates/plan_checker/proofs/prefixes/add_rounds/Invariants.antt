use Rattle.std.proofs.Common.{◌≡◌, ◌++◌, take}
use Rattle.update_model.specs.Changes.{round_blocks}
use Rattle.plan_checker.proofs.prefixes.add_rounds.Given as goal

abbrev pub invariant-loop-k : goal.invariant-loop-k
invariant-loop-k l = l.prefixes.items ≡ l.fn.prefixes.items ++ round_blocks (take l.k l.rounds)
