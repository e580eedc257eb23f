use Rattle.std.proofs.Common.{◌-◌, sym, ◌∙◌, arith}
use Rattle.std.specs.Prelude.{nat_lt}
use Rattle.plan_format.proofs.OrderLaws.{ascends_end}
use Rattle.plan_format.proofs.lists.are_ascending.Goals as goal

pub returns : goal.returns
returns c = sym (ascends_end nat_lt c.args.numbers.now (c.loop-k.k - 1) (omega (arith, c.loop-k-test.false))) ∙ c.loop-k.invariant
