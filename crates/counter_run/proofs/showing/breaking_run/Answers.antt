use Rattle.std.proofs.Common.{subst, sym, take}
use Rattle.demands.specs.Duties.{duties_of}
use Rattle.counter_run.specs.Showing.{IsBreakingRun, AreFewFor, shown_rollout}
use Rattle.counter_run.proofs.AddLaws.{run_added}
use Rattle.counter_run.proofs.FewLaws.{few_events}
use Rattle.counter_run.proofs.ShownLaws.{shown}
use Rattle.counter_run.proofs.StageLaws.{end_possible}
use Rattle.counter_run.proofs.showing.breaking_run.Goals as goal

pub add_walk-requires-clause-stage : goal.add_walk-requires-clause-stage
add_walk-requires-clause-stage c = record {
  tables = c.requires.tables;
  within = c.requires.within;
  before = c.requires.before;
  good = c.requires.good;
  clear = c.requires.clear;
}

pub add_walk-requires-clause-end : goal.add_walk-requires-clause-end
add_walk-requires-clause-end c =
    end_possible (shown_rollout c.args.stage) c.args.stage.round.number c.args.class.first c.args.class.entry
    (duties_of c.args.duties.now.demands c.args.class.entry c.args.class.first) c.args.walk.now.rest c.args.walk.now.end c.requires.walk.breaks

pub returns : goal.returns
returns c =
    let u = shown_rollout c.args.stage in
    let k = c.args.stage.round.number in
    let along = c.in_ok-add_walk.ensures in
    let events_are = run_added (take k c.args.stage.round.rounds.now) c.args.class.entry c.args.class.first along.steps c.in_ok-events.events c.add_whole_rounds.new.events c.add_entry.new.events
    c.add_walk.new.events c.in_ok-events.ensures c.in_ok-add_whole_rounds.ensures c.in_ok-add_entry.ensures.added along.added in
    record {
      run = subst (IsBreakingRun u c.args.duties.now.demands k c.args.class) (sym events_are)
          (shown u c.requires.good k c.requires.within c.args.duties.now.demands c.args.class c.requires.entry c.in_ok-add_entry.ensures.small c.args.walk.now.rest c.args.walk.now.end c.requires.walk
          along.steps along.are);
      few = subst (AreFewFor c.args.stage.round.net.now c.args.stage.round.rounds.now) (sym events_are)
          (few_events u c.keeps_rules.ensures k c.requires.within c.args.duties.now.demands c.args.class c.requires.entry c.args.walk.now.rest c.args.walk.now.end c.requires.walk along.steps along.are);
    }
