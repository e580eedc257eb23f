use Rattle.std.proofs.Common.{◌≡◌, true}
use Rattle.flow_rules.specs.Tables.{rules_of_all}
use Rattle.round_tables.specs.PreparedTables.{HasRoomForAll, StandsBefore}
use Rattle.round_survey.specs.Keeping.{KeepVlans}
use Rattle.class_watch.specs.Walks.{WalksStand}
use Rattle.round_survey.specs.Surveys.{HasSurveyRoom}
use Rattle.counter_run.specs.Updates.{NoneBreaksBefore, rollout_of}
use Rattle.counter_run.proofs.searching.search_each.Given as goal

abbrev pub invariant-loop-k : goal.invariant-loop-k
invariant-loop-k l = record {
  stands : StandsBefore (rollout_of l.update) l.k l.tables;
  tables : HasRoomForAll (rollout_of l.update) l.tables;
  room : HasSurveyRoom l.update.classes.now l.survey.classes.items l.survey.came.items l.survey.good.items;
  keeps : l.by_survey ≡ true → KeepVlans (rules_of_all l.update.old.now) l.update.rounds.now;
  walks : l.by_survey ≡ true → WalksStand (rollout_of l.update) l.k l.survey.classes.items l.survey.came.items;
  none : NoneBreaksBefore l.update l.k;
}
