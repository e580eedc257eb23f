-- What the files of `replay` mean, and what is said of the schedule.
use Rattle.std.specs.Prelude.{◌≡◌, ◌⊎◌, ℕ, List, ◌++◌, codes, decimal, Option}
use Rattle.std.specs.Io.KnownBytes.{Appends}
use Rattle.file_access.specs.Outside.{Files}
use Rattle.topology.specs.Networks.{Network}
use Rattle.topology_files.specs.Topology.{network_in}
use Rattle.flow_rules.specs.Tables.{rules_of_all}
use Rattle.flow_rules.specs.declared.rules.Rule.{Rule}
use Rattle.config_files.specs.Configuration.{configuration_in}
use Rattle.update_model.specs.Mixtures.{Rollout}
use Rattle.update_model.specs.Runs.{IsRun, state_after_run}
use Rattle.update_model.specs.States.{first_state}
use Rattle.update_model.specs.Worlds.{WorldState}
use Rattle.certificates.specs.declared.Plan.{Plan}
use Rattle.plan_format.specs.Plans.{plan_in}
use Rattle.schedule_replay.specs.Faults as schedule_fault
use Rattle.schedule_replay.specs.Replays.{StopsAt}
use Rattle.schedule_replay.specs.Schedules.{schedule_in, events_of}
use Rattle.schedule_replay.specs.Traces.{traces_text}
use Rattle.schedule_replay.specs.declared.fault.ScheduleFault.{ScheduleFault}
use Rattle.schedule_replay.specs.declared.schedule.ScheduleLine.{ScheduleLine}
use Rattle.command_base.specs.declared.kinds.FileKind.TheVariants as kind
use Rattle.command_base.specs.declared.status.Status.TheVariants as status
use Rattle.command_base.specs.Answers.{Answer}
use Rattle.command_base.specs.Dialogues.{Dialogue, Ends, and_then}
use Rattle.command_base.specs.Lines.{FaultWords}
use Rattle.command_base.specs.Meanings.{IsReadAs}
use Rattle.command_base.specs.Readings.{reading, reading_topology, reading_config, reading_plan}
use Rattle.replay_command.specs.declared.files.ReplayFiles.{ReplayFiles}
use Rattle.replay_command.specs.Names.{ReplayNames}

-- a network, a configuration and a plan of it, and a schedule
pub record ReplayMeaning : Type 0 where
  pub net : Network
  pub old : List (List Rule)
  pub plan : Plan
  pub schedule : List ScheduleLine

-- what files that were read mean
abbrev pub meaning_of : ReplayFiles → ReplayMeaning
meaning_of files =
    record { net = files.net; old = rules_of_all files.old; plan = files.plan; schedule = files.schedule }

-- what is printed of a schedule's fault
abbrev pub schedule_words : ScheduleFault → FaultWords
schedule_words f = record { number = schedule_fault.fault_number f; name = schedule_fault.fault_name f; field = schedule_fault.fault_field f; place = schedule_fault.fault_place f }

-- reads a schedule of the network
abbrev pub reading_schedule : Network → List ℕ → Dialogue (List ScheduleLine)
reading_schedule net name = reading kind.Schedule schedule_words (schedule_in net) name

-- reads the network, the old configuration, the plan and the schedule
unfoldable pub replay_dialogue : ReplayNames → Dialogue ReplayMeaning
replay_dialogue names =
    and_then (reading_topology names.topology) (λ net. and_then (reading_config kind.Old net names.old) (λ old.
    and_then (reading_plan net names.plan) (λ plan. and_then (reading_schedule net names.schedule) (λ schedule.
    Ends (record { net = net; old = old; plan = plan; schedule = schedule })))))

-- the old tables and the rounds of the plan
abbrev pub replay_rollout : ReplayMeaning → Rollout
replay_rollout m = record { net = m.net; old = m.old; rounds = m.plan.rounds }

-- the network before the first event
abbrev pub begin_state : ReplayMeaning → WorldState
begin_state m = record { net = m.net; rounds = m.plan.rounds; state = first_state m.old }

-- the network after all events
abbrev pub end_state : ReplayMeaning → WorldState
end_state m = record { net = m.net; rounds = m.plan.rounds; state = state_after_run (replay_rollout m) (events_of m.schedule) }

-- on a file in whose line something stands that can't happen: an event that isn't enabled, or a start that is refused
abbrev pub not_a_run_line : ℕ → List ℕ
not_a_run_line line = codes "not a run: line " ++ decimal line ++ codes "\n"

-- the events are a run, and the answer is this text of it
pub record SaysOfRun (text : ReplayMeaning → List ℕ) (m : ReplayMeaning) (answer : Answer) : Type 0 where
  pub run : IsRun (replay_rollout m) (events_of m.schedule)
  pub answer_is : answer ≡ record { status = status.Done; text = text m }

-- the first event that isn't enabled stands in this line
pub record FirstStopsAt (m : ReplayMeaning) (number : ℕ) : Type 0 where
  pub world : WorldState
  pub stops : StopsAt (begin_state m) world m.schedule number

-- an event isn't enabled, and the answer names the line of the first one
pub record SaysNotARun (m : ReplayMeaning) (answer : Answer) : Type 0 where
  pub line : ℕ
  pub first : FirstStopsAt m line
  pub answer_is : answer ≡ record { status = status.NotARun; text = not_a_run_line line }

-- the answer of a command that writes this text of a run
abbrev pub IsRunAnswer : (ReplayMeaning → List ℕ) → ReplayMeaning → Answer → Type 0
IsRunAnswer text m answer = SaysOfRun text m answer ⊎ SaysNotARun m answer

-- the traces at the end of a run
abbrev pub traces_of : ReplayMeaning → List ℕ
traces_of m = traces_text m.net (end_state m)

-- the answer of `replay`
abbrev pub IsReplayAnswer : ReplayMeaning → Answer → Type 0
IsReplayAnswer m answer = IsRunAnswer traces_of m answer

-- the files mean this network, configuration, plan and schedule
pub record FilesMeanReplay (files : Files) (names : ReplayNames) (m : ReplayMeaning) : Type 0 where
  pub topology_is : IsReadAs files kind.Topology network_in names.topology m.net
  pub old_is : IsReadAs files kind.Old (configuration_in m.net) names.old m.old
  pub plan_is : IsReadAs files kind.Plan (plan_in m.net) names.plan m.plan
  pub schedule_is : IsReadAs files kind.Schedule (schedule_in m.net) names.schedule m.schedule

-- the files are read, and the events are a run of the plan's rounds from the old tables
pub record FilesAreARun (files : Files) (names : ReplayNames) : Type 0 where
  pub meaning : ReplayMeaning
  pub mean : FilesMeanReplay files names meaning
  pub run : IsRun (replay_rollout meaning) (events_of meaning.schedule)

-- the files are read, and an event isn't enabled
pub record FilesAreNoRun (files : Files) (names : ReplayNames) : Type 0 where
  pub meaning : ReplayMeaning
  pub mean : FilesMeanReplay files names meaning
  pub stops : ¬ IsRun (replay_rollout meaning) (events_of meaning.schedule)

-- the line that was written names the line of the first event that isn't enabled
pub record NamesFirstLine (m : ReplayMeaning) (old new : Option (List ℕ)) : Type 0 where
  pub line : ℕ
  pub first : FirstStopsAt m line
  pub written : Appends old new (not_a_run_line line)
