use Rattle.std.proofs.Common.{subst}
use Rattle.std.specs.Prelude.{Option, IfSome}
use Rattle.demands.specs.Duties.{duties_of}
use Rattle.breaking_walks.specs.Breaking.{IsBreakingWalk}
use Rattle.breaking_walks.specs.declared.BreakingWalk.{BreakingWalk}
use Rattle.counter_run.specs.Showing.{shown_rollout}
use Rattle.counter_run.proofs.BreakLaws.{has_walk}
use Rattle.counter_run.proofs.ClassLaws.{entry_within}
use Rattle.counter_run.proofs.finding.class_run.Goals as goal

pub breaking_walk-requires-clause-entry : goal.breaking_walk-requires-clause-entry
breaking_walk-requires-clause-entry c = entry_within c.args.stage.round.net.now c.keeps_rules.ensures c.args.numbered.class.entry c.requires.entry

pub returns-in_ok-breaking_run-in-Some-clause-some : goal.returns-in_ok-breaking_run-in-Some-clause-some
returns-in_ok-breaking_run-in-Some-clause-some c =
    let u = shown_rollout c.args.stage in
    let k = c.args.stage.round.number in
    let class = c.args.numbered.class in
    let duties = duties_of c.args.duties.now.demands class.entry class.first in
    let walk : IsBreakingWalk u k class.first class.entry duties c.in-Some.walk.rest c.in-Some.walk.end =
    subst (λ (o : Option BreakingWalk). IfSome o (λ w. IsBreakingWalk u k class.first class.entry duties w.rest w.end)) c.in-Some.is c.in_ok-walk.ensures.some in
    record {
      breaks = has_walk u k class.first class.entry duties c.in-Some.walk.rest c.in-Some.walk.end walk;
      shown = c.in_ok-breaking_run-in-Some.ensures.run;
      few = c.in_ok-breaking_run-in-Some.ensures.few;
    }
