use Rattle.std.proofs.Common.{rules, ◌≡◌}
use Rattle.std.specs.Ordering.{is_lt}
use Rattle.std.proofs.lemmas.Fn.{always_returns_same}
use Rattle.round_mix.specs.Kinds.{begin_of, is_sooner}
use Rattle.round_mix.specs.declared.MarkedRule.{MarkedRule}
use Rattle.round_mix.proofs.SweepLaws.{begins_order}
use Rattle.round_mix.proofs.kinds.sort_for.Goals as goal

pub returns-clause-order : goal.returns-clause-order
returns-clause-order c =
    c.sort_unstable_by.ensures.sorted (λ (m n : MarkedRule). is_sooner (begin_of c.args.pair m) (begin_of c.args.pair n)) (begins_order c.args.pair)
    (always_returns_same _ (λ a r. is_lt r ≡ is_sooner (begin_of c.args.pair a.0.now) (begin_of c.args.pair a.1.0.now)) _ (λ a r f called. (search rules, search rules)))
