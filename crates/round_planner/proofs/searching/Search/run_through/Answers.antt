use Rattle.std.proofs.Common.{subst, ap}
use Rattle.topology.specs.Networks.{Network, IsNetwork}
use Rattle.path_walk.specs.UserConfigs.{IsUserConfig}
use Rattle.table_difference.specs.Targets.{Target}
use Rattle.round_planner.specs.Searching.{IsMoved}
use Rattle.round_planner.proofs.RunLaws.{one_less}
use Rattle.round_planner.proofs.searching.Search.run_through.Goals as goal

pub searching-smaller : goal.searching-smaller
searching-smaller c =
    let to = c.args.goal.now in
    let (old, changes, user, at, are) = c.requires in
    let new_user = subst (λ (a : Target). IsUserConfig a.net a.new) c.goal.view_is c.goal.invariant.user in
    let net = subst (λ (n : Network). IsNetwork n) (ap (λ (a : Target). a.net) c.goal.view_is) c.keeps_rules.ensures in
    let (now, here, are_now) = c.searching.invariant old changes user at are in
    let (x, next, left) = subst (IsMoved to old now c.go_on.new.self c.go_on.new.left.items) c.if-not-branch.false (c.in_ok-go_on.ensures old now user here are_now) in
    one_less to old net user new_user now x c.searching.self c.go_on.new.self here next
