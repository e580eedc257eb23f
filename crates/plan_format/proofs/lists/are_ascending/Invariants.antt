use Rattle.std.proofs.Common.{◌≡◌, drop}
use Rattle.std.specs.Prelude.{nat_lt, ◌-◌}
use Rattle.plan_format.specs.Evidence.{ascends}
use Rattle.plan_format.proofs.lists.are_ascending.Given as goal

abbrev pub invariant-loop-k : goal.invariant-loop-k
invariant-loop-k l = ascends nat_lt (drop (l.k - 1) l.numbers) ≡ ascends nat_lt l.numbers
