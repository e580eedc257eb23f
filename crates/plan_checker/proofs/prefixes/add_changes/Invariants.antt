use Rattle.std.proofs.Common.{◌≡◌, ◌++◌, map, take}
use Rattle.update_model.specs.Changes.{rule_of}
use Rattle.plan_checker.proofs.prefixes.add_changes.Given as goal

abbrev pub invariant-loop-change : goal.invariant-loop-change
invariant-loop-change l = l.prefixes.items ≡ l.fn.prefixes.items ++ map (λ c. (rule_of c).key.pattern.dst) (take l.change-index l.changes)
