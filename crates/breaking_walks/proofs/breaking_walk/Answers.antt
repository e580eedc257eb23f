use Rattle.std.proofs.Common.{subst}
use Rattle.std.specs.Prelude.{Option, IfSome}
use Rattle.demands.specs.Duties.{duties_of}
use Rattle.breaking_walks.specs.Rounds.{round_rollout}
use Rattle.breaking_walks.specs.Broken.{IsBrokenIn}
use Rattle.breaking_walks.specs.declared.BreakingWalk.{BreakingWalk}
use Rattle.breaking_walks.proofs.breaking_walk.Goals as goal

pub returns-in_ok-cut-in-Some-clause-some : goal.returns-in_ok-cut-in-Some-clause-some
returns-in_ok-cut-in-Some-clause-some c =
    let class = c.args.numbered.class in
    let demands = c.args.duties.now.demands in
    let broken : IsBrokenIn c.args.round demands class c.in-Some.walk =
    subst (λ (o : Option BreakingWalk). IfSome o (IsBrokenIn c.args.round demands class)) c.in-Some.is c.in_ok-walk.ensures.some in
    c.in_ok-cut-in-Some.ensures (round_rollout c.args.round) c.args.round.number class.first (duties_of demands class.entry class.first) broken
