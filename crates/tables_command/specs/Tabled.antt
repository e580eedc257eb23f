-- What the files of `tables` mean, and what is said of the schedule.
use Rattle.std.specs.Prelude.{◌≡◌, ℕ, List, Option}
use Rattle.std.specs.Io.KnownBytes.{Appends}
use Rattle.file_access.specs.Outside.{Files}
use Rattle.topology.specs.Networks.{Network}
use Rattle.topology_files.specs.Topology.{network_in}
use Rattle.flow_rules.specs.Tables.{rules_of_all}
use Rattle.flow_rules.specs.declared.rules.Rule.{Rule}
use Rattle.config_files.specs.Configuration.{configuration_in}
use Rattle.update_model.specs.Mixtures.{Rollout}
use Rattle.certificates.specs.declared.Plan.{Plan}
use Rattle.plan_format.specs.Plans.{plan_in}
use Rattle.two_way_replay.specs.Courses.{CourseState, first_course, IsCourse, state_after_course}
use Rattle.two_way_replay.specs.CourseWorlds.{CourseWorld, StopsAtStep}
use Rattle.two_way_replay.specs.TwoWaySchedules.{two_way_schedule_in, steps_of}
use Rattle.two_way_replay.specs.declared.schedule.TwoWayLine.{TwoWayLine}
use Rattle.command_base.specs.declared.kinds.FileKind.TheVariants as kind
use Rattle.command_base.specs.declared.status.Status.TheVariants as status
use Rattle.command_base.specs.Answers.{Answer}
use Rattle.command_base.specs.Dialogues.{Dialogue, Ends, and_then}
use Rattle.command_base.specs.Meanings.{IsReadAs}
use Rattle.command_base.specs.Readings.{reading, reading_topology, reading_config, reading_plan}
use Rattle.replay_command.specs.Names.{ReplayNames}
use Rattle.replay_command.specs.Replayed.{schedule_words, not_a_run_line}
use Rattle.tables_command.specs.declared.files.TablesFiles.{TablesFiles}

-- a network, a configuration and a plan of it, and a schedule by which the rounds are carried out and turned back
pub record TablesMeaning : Type 0 where
  pub net : Network
  pub old : List (List Rule)
  pub plan : Plan
  pub schedule : List TwoWayLine

-- what files that were read mean
abbrev pub meaning_of : TablesFiles → TablesMeaning
meaning_of files =
    record { net = files.net; old = rules_of_all files.old; plan = files.plan; schedule = files.schedule }

-- reads a schedule of the network
abbrev pub reading_two_way : Network → List ℕ → Dialogue (List TwoWayLine)
reading_two_way net name = reading kind.Schedule schedule_words (two_way_schedule_in net) name

-- reads the network, the old configuration, the plan and the schedule
unfoldable pub tables_dialogue : ReplayNames → Dialogue TablesMeaning
tables_dialogue names =
    and_then (reading_topology names.topology) (λ net. and_then (reading_config kind.Old net names.old) (λ old.
    and_then (reading_plan net names.plan) (λ plan. and_then (reading_two_way net names.schedule) (λ schedule.
    Ends (record { net = net; old = old; plan = plan; schedule = schedule })))))

-- the old tables and the rounds of the plan
abbrev pub tables_rollout : TablesMeaning → Rollout
tables_rollout m = record { net = m.net; old = m.old; rounds = m.plan.rounds }

-- the update before the first step
abbrev pub begin_course : TablesMeaning → CourseWorld
begin_course m = record { update = tables_rollout m; course = first_course m.old }

-- the state after all steps
abbrev pub end_course : TablesMeaning → CourseState
end_course m = state_after_course (tables_rollout m) (steps_of m.schedule)

-- the steps are a course of the update, and the answer is this text of it
pub record SaysOfCourse (text : TablesMeaning → List ℕ) (m : TablesMeaning) (answer : Answer) : Type 0 where
  pub run : IsCourse (tables_rollout m) (steps_of m.schedule)
  pub answer_is : answer ≡ record { status = status.Done; text = text m }

-- the first step that isn't enabled stands in this line
pub record FirstStopsAtStep (m : TablesMeaning) (number : ℕ) : Type 0 where
  pub world : CourseWorld
  pub stops : StopsAtStep (begin_course m) world m.schedule number

-- a step isn't enabled, and the answer names the line of the first one
pub record SaysNoCourse (m : TablesMeaning) (answer : Answer) : Type 0 where
  pub line : ℕ
  pub first : FirstStopsAtStep m line
  pub answer_is : answer ≡ record { status = status.NotARun; text = not_a_run_line line }

-- the files mean this network, configuration, plan and schedule
pub record FilesMeanTables (files : Files) (names : ReplayNames) (m : TablesMeaning) : Type 0 where
  pub topology_is : IsReadAs files kind.Topology network_in names.topology m.net
  pub old_is : IsReadAs files kind.Old (configuration_in m.net) names.old m.old
  pub plan_is : IsReadAs files kind.Plan (plan_in m.net) names.plan m.plan
  pub schedule_is : IsReadAs files kind.Schedule (two_way_schedule_in m.net) names.schedule m.schedule

-- the files are read, and the steps are a course of the plan's rounds from the old tables
pub record FilesAreACourse (files : Files) (names : ReplayNames) : Type 0 where
  pub meaning : TablesMeaning
  pub mean : FilesMeanTables files names meaning
  pub run : IsCourse (tables_rollout meaning) (steps_of meaning.schedule)

-- the files are read, and a step isn't enabled
pub record FilesAreNoCourse (files : Files) (names : ReplayNames) : Type 0 where
  pub meaning : TablesMeaning
  pub mean : FilesMeanTables files names meaning
  pub stops : ¬ IsCourse (tables_rollout meaning) (steps_of meaning.schedule)

-- the line that was written names the line of the first step that isn't enabled
pub record NamesFirstStep (m : TablesMeaning) (old new : Option (List ℕ)) : Type 0 where
  pub line : ℕ
  pub first : FirstStopsAtStep m line
  pub written : Appends old new (not_a_run_line line)
