use Rattle.std.proofs.Common.{sym, ◌∙◌, ap}
use Rattle.std.specs.Prelude.{nat_lt}
use Rattle.std.specs.Option.{option_copied}
use Rattle.plan_format.proofs.OrderLaws.{follows_last}
use Rattle.plan_waits.proofs.read.comes_next.Goals as goal

pub returns-in-Some : goal.returns-in-Some
returns-in-Some c = sym (follows_last nat_lt c.args.before.now c.args.number c.in-Some.last.now (sym c.last.ensures.value ∙ ap (λ o. option_copied o) c.in-Some.is))
