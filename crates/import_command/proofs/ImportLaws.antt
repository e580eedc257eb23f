-- What a run of `import` says of the files of a source that tells.
use Rattle.std.proofs.Common.{ℕ, List, refl, subst}
use Rattle.std.specs.declared.option.Option.{Option}
use Rattle.file_access.specs.Outside.{Files}
use Rattle.topology_files.specs.Topology.{network_in}
use Rattle.flow_stats.specs.Replies.{replies_in}
use Rattle.flow_stats.proofs.UserTables.{replies_shown}
use Rattle.command_base.specs.declared.status.Status.{Status}
use Rattle.command_base.specs.declared.kinds.FileKind.TheVariants as kind
use Rattle.command_base.specs.Lines.{net_words}
use Rattle.command_base.specs.Meanings.{Means}
use Rattle.command_base.specs.Runs.{IsComplete, Answered}
use Rattle.command_base.proofs.MeaningLaws.{MeansOnly, means_then, means_parts, means_read, read_means}
use Rattle.command_base.proofs.AnswerLaws.{SaysOfFiles, says_of_files, done_means, wrote, status_of, text_of}
use Rattle.command_base.proofs.RunLaws.{settled_done}
use Rattle.import_command.specs.Names.{ImportNames}
use Rattle.import_command.specs.Imported.{ImportMeaning, import_dialogue, replies_words, IsImportAnswer, FilesMeanImport, WritesConfig}
use Rattle.import_command.specs.Promise.{ImportPromise}

-- the dialogue means what the files mean, and nothing else
means_import : (files : Files) (names : ImportNames) (m : ImportMeaning) → FilesMeanImport files names m → Means files (import_dialogue names) m
unfolding import_dialogue
means_import files names m is =
    means_then files _ _ m.net m (means_read files kind.Topology net_words network_in names.topology m.net is.topology_is)
    (means_then files _ _ m.tables m (means_read files kind.Replies replies_words (replies_in m.net) names.replies m.tables is.replies_are) refl)

import_means : (files : Files) (names : ImportNames) (m : ImportMeaning) → Means files (import_dialogue names) m → FilesMeanImport files names m
unfolding import_dialogue
import_means files names m means =
    let (net, topology_is, second) = means_parts files _ _ m means in
    let (tables, replies_are, same) = means_parts files _ _ m second in
    let read : FilesMeanImport files names (record { net = net; tables = tables }) = record {
      topology_is = read_means files kind.Topology net_words network_in names.topology net topology_is;
      replies_are = read_means files kind.Replies replies_words (replies_in net) names.replies tables replies_are;
    } in
    subst (λ v. FilesMeanImport files names v) same read

import_meant : (files : Files) (names : ImportNames) → MeansOnly files (import_dialogue names) (FilesMeanImport files names)
import_meant files names = record { means = means_import files names; only = import_means files names }

writes : (files : Files) (names : ImportNames) (old new : Option (List ℕ)) (result : Status) → SaysOfFiles (FilesMeanImport files names) IsImportAnswer old new result
    → (m : ImportMeaning) → FilesMeanImport files names m → WritesConfig m.net m.tables old new
writes files names old new result r m mean =
    let says = r.said m mean in
    record { text = _; means = says.means; written = wrote r _ (text_of r.answer _ _ says.answer_is) }

pub promised : (files : Files) (names : ImportNames) (old new : Option (List ℕ)) (result : Status) → (IsComplete result → Answered IsImportAnswer files (import_dialogue names) old new result) → ImportPromise files names old new result
promised files names old new result answered = record {
  done = λ settled. done_means (says_of_files (import_meant files names) (answered settled)) (λ m says. status_of _ _ _ says.answer_is);
  same = λ m mean is. writes files names old new result (says_of_files (import_meant files names) (answered (settled_done _ is))) m mean;
  user = λ m mean. replies_shown m.net mean.replies_are.bytes m.tables mean.replies_are.means;
}
