use Rattle.std.proofs.Common.{sym, ◌∙◌, ap}
use Rattle.std.specs.Option.{option_copied}
use Rattle.plan_format.specs.Evidence.{pick_before}
use Rattle.plan_format.proofs.OrderLaws.{follows_last}
use Rattle.plan_format.proofs.picks.comes_next.Goals as goal

pub returns-in-Some : goal.returns-in-Some
returns-in-Some c =
    c.is_before.ensures ∙ sym (follows_last pick_before c.args.picks.now c.args.pick c.in-Some.last.now (sym c.last.ensures.value ∙ ap (λ o. option_copied o) c.in-Some.is))
