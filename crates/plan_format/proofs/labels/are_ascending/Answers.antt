use Rattle.std.proofs.Common.{◌-◌, sym, ◌∙◌, arith}
use Rattle.plan_format.specs.Evidence.{label_before}
use Rattle.plan_format.proofs.OrderLaws.{ascends_end}
use Rattle.plan_format.proofs.labels.are_ascending.Goals as goal

pub returns : goal.returns
returns c = sym (ascends_end label_before c.args.labels.now (c.loop-k.k - 1) (omega (arith, c.loop-k-test.false))) ∙ c.loop-k.invariant
