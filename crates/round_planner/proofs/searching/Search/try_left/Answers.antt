use Rattle.std.proofs.Common.{sym, ◌∙◌, subst}
use Rattle.update_model.specs.Changes.{tables_after}
use Rattle.round_planner.specs.Searching.{IsTried}
use Rattle.round_planner.proofs.FailureLaws.{fails_then}
use Rattle.round_planner.proofs.LeftLaws.{failed_some}
use Rattle.round_planner.proofs.searching.Search.try_left.Goals as goal

pub returns-then-is_some-clause-tried : goal.returns-then-is_some-clause-tried
returns-then-is_some-clause-tried c = λ old changes user at i stands.
    ((failed_some c.args.goal.now (tables_after changes old) c.args.left.now (sym c.is_some.ensures ∙ c.if-is_some.true) stands, at), stands)

pub returns-in-Some-clause-tried : goal.returns-in-Some-clause-tried
returns-in-Some-clause-tried c = λ old changes user at i stands.
    let to = c.args.goal.now in
    let change = c.args.left.now.change in
    let (fails, here) = subst (IsTried to old changes change c.try_change.new.self) c.in-Some.is (c.in_ok-try_change.ensures old changes user at i) in
    ((fails_then to (tables_after changes old) change c.in-Some.failure fails, here), fails)
