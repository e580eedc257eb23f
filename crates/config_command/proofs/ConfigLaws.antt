-- What a run of `config` says of the files of a source that tells.
use Rattle.std.proofs.Common.{ℕ, List, refl, subst}
use Rattle.std.specs.declared.option.Option.{Option}
use Rattle.file_access.specs.Outside.{Files}
use Rattle.topology_files.specs.Topology.{network_in}
use Rattle.config_files.specs.Configuration.{configuration_in}
use Rattle.command_base.specs.declared.status.Status.{Status}
use Rattle.command_base.specs.declared.kinds.FileKind.TheVariants as kind
use Rattle.command_base.specs.Lines.{net_words, config_words}
use Rattle.command_base.specs.Meanings.{Means}
use Rattle.command_base.specs.Runs.{IsComplete, Answered}
use Rattle.command_base.proofs.MeaningLaws.{MeansOnly, means_then, means_parts, means_read, read_means, means_policy, policy_means}
use Rattle.command_base.proofs.JudgementLaws.{judges, judged_done, judged_then, refusals}
use Rattle.command_base.proofs.RunLaws.{settled_done}
use Rattle.config_command.specs.Names.{ConfigNames}
use Rattle.config_command.specs.Configs.{ConfigMeaning, config_dialogue, IsConfigAnswer, FilesMean}
use Rattle.config_command.specs.Promise.{ConfigPromise}
use Rattle.config_command.proofs.StillLaws.{keeps_good}

-- the dialogue means what the files mean, and nothing else
pub means_config : (files : Files) (names : ConfigNames) (m : ConfigMeaning) → FilesMean files names m → Means files (config_dialogue names) m
unfolding config_dialogue
means_config files names m is =
    means_then files _ _ m.net m (means_read files kind.Topology net_words network_in names.topology m.net is.topology_is)
    (means_then files _ _ m.tables m (means_read files kind.Config config_words (configuration_in m.net) names.config m.tables is.config_is)
    (means_then files _ _ m.demands m (means_policy files m.net names.policy m.demands is.policy_is) refl))

pub config_means : (files : Files) (names : ConfigNames) (m : ConfigMeaning) → Means files (config_dialogue names) m → FilesMean files names m
unfolding config_dialogue
config_means files names m means =
    let (net, topology_is, second) = means_parts files _ _ m means in
    let (tables, config_is, third) = means_parts files _ _ m second in
    let (demands, policy_is, same) = means_parts files _ _ m third in
    let read : FilesMean files names (record { net = net; tables = tables; demands = demands }) = record {
      topology_is = read_means files kind.Topology net_words network_in names.topology net topology_is;
      config_is = read_means files kind.Config config_words (configuration_in net) names.config tables config_is;
      policy_is = policy_means files net names.policy demands policy_is;
    } in
    subst (λ v. FilesMean files names v) same read

pub config_meant : (files : Files) (names : ConfigNames) → MeansOnly files (config_dialogue names) (FilesMean files names)
config_meant files names = record { means = means_config files names; only = config_means files names }

pub promised : (files : Files) (names : ConfigNames) (old new : Option (List ℕ)) (result : Status) → (IsComplete result → Answered IsConfigAnswer files (config_dialogue names) old new result) → ConfigPromise files names old new result
promised files names old new result answered = record {
  done = λ settled. judged_done (judges (config_meant files names) (answered settled));
  keeps = λ m mean is. keeps_good m.net m.tables m.demands (judged_then (judges (config_meant files names) (answered (settled_done _ is))) is m mean);
  refusals = refusals (λ settled. judges (config_meant files names) (answered settled));
}
