-- What the files of `config` mean, and what follows from it.
use Rattle.std.specs.Prelude.{ℕ, List, []}
use Rattle.std.specs.List.{AllByRecursion}
use Rattle.file_access.specs.Outside.{Files}
use Rattle.topology.specs.Networks.{Network}
use Rattle.topology_files.specs.Topology.{network_in}
use Rattle.flow_rules.specs.Tables.{rules_of_all}
use Rattle.flow_rules.specs.declared.rules.Rule.{Rule}
use Rattle.config_files.specs.Configuration.{configuration_in}
use Rattle.demands.specs.Duties.{DemandView}
use Rattle.demands.specs.Good.{MeetsDemands}
use Rattle.update_model.specs.Mixtures.{Rollout}
use Rattle.update_model.specs.Runs.{IsRun, state_after_run}
use Rattle.update_model.specs.declared.Event.{Event}
use Rattle.certificates.specs.Consistent.{trace_of}
use Rattle.command_base.specs.declared.kinds.FileKind.TheVariants as kind
use Rattle.command_base.specs.Answers.{Answer}
use Rattle.command_base.specs.JudgedFiles.{FilesAreGood}
use Rattle.command_base.specs.Dialogues.{Dialogue, Ends, and_then}
use Rattle.command_base.specs.Meanings.{IsReadAs}
use Rattle.command_base.specs.Readings.{reading_topology, reading_config, reading_policy}
use Rattle.command_base.specs.Updates.{IsPolicyOf}
use Rattle.config_command.specs.declared.files.ConfigFiles.{ConfigFiles}
use Rattle.config_command.specs.Names.{ConfigNames}
use Rattle.config_command.specs.Verdicts.{IsVerdict, count_under, HoldsUnder}

-- a network, a configuration of it, and demands
pub record ConfigMeaning : Type 0 where
  pub net : Network
  pub tables : List (List Rule)
  pub demands : List DemandView

-- the meaning of files that were read
abbrev pub config_meaning_of : ConfigFiles → ConfigMeaning
config_meaning_of files = record { net = files.net; tables = rules_of_all files.tables; demands = files.demands }

-- reads the network, the configuration and the policy
unfoldable pub config_dialogue : ConfigNames → Dialogue ConfigMeaning
config_dialogue names =
    and_then (reading_topology names.topology) (λ net. and_then (reading_config kind.Config net names.config) (λ tables.
    and_then (reading_policy net names.policy) (λ demands. Ends (record { net = net; tables = tables; demands = demands }))))

-- the answer is the verdict on the configuration
abbrev pub IsConfigAnswer : ConfigMeaning → Answer → Type 0
IsConfigAnswer m answer = IsVerdict m.net m.tables m.demands answer

-- the files mean this network, this configuration of it and these demands
pub record FilesMean (files : Files) (names : ConfigNames) (m : ConfigMeaning) : Type 0 where
  pub topology_is : IsReadAs files kind.Topology network_in names.topology m.net
  pub config_is : IsReadAs files kind.Config (configuration_in m.net) names.config m.tables
  pub policy_is : IsPolicyOf files m.net names.policy m.demands

-- how many classes there are
abbrev pub config_count : ConfigMeaning → ℕ
config_count m = count_under m.net m.tables m.demands

-- the configuration has a good path for each of its classes
abbrev pub Holds : ConfigMeaning → Type 0
Holds m = HoldsUnder m.net m.tables m.demands

-- the files are read, there are few enough classes, and each has a good path
abbrev pub FilesHold : Files → ConfigNames → Type 0
FilesHold files names = FilesAreGood (FilesMean files names) config_count Holds

-- in every run of packets over the tables, in which nothing is changed, each packet's trace meets the demands
abbrev pub KeepsPacketsGood : Network → List (List Rule) → List DemandView → Type 0
KeepsPacketsGood net tables demands =
    let still : Rollout = record { net = net; old = tables; rounds = [] } in
    (events : List Event) → IsRun still events
    → AllByRecursion (λ p. MeetsDemands demands p.entry p.dst (trace_of p)) (state_after_run still events).packets
