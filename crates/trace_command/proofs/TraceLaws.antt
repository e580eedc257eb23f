-- What a run of `trace` says of the files of a source that tells.
use Rattle.std.proofs.Common.{◌≡◌, ◌↔◌, ℕ, List, refl, sym, ap, ◌∙◌, subst, inl, inr}
use Rattle.std.specs.declared.option.Option.{Option}
use Rattle.std.specs.Io.KnownBytes.{Appends}
use Rattle.file_access.specs.Outside.{Files}
use Rattle.net_base.specs.declared.ids.Place.{Place}
use Rattle.topology_files.specs.Topology.{network_in}
use Rattle.config_files.specs.Configuration.{configuration_in}
use Rattle.command_base.specs.declared.status.Status.{Status}
use Rattle.command_base.specs.declared.status.Status.TheVariants as status
use Rattle.command_base.specs.declared.kinds.FileKind.TheVariants as kind
use Rattle.command_base.specs.Lines.{net_words, config_words}
use Rattle.command_base.specs.Answers.{Answer}
use Rattle.command_base.specs.Meanings.{Means}
use Rattle.command_base.specs.Runs.{IsComplete, Answered}
use Rattle.command_base.proofs.MeaningLaws.{MeansOnly, means_then, means_parts, means_read, read_means}
use Rattle.command_base.proofs.AnswerLaws.{SaysOfFiles, says_of_files, meant, wrote, status_of, text_of}
use Rattle.command_base.proofs.RunLaws.{settled_done, settled_refused}
use Rattle.trace_command.specs.Names.{TraceNames}
use Rattle.trace_command.specs.Traced.{TraceMeaning, trace_dialogue, NamesEntry, NamesNoEntry, no_entry_line, IsTraceAnswer, SaysTrace, SaysNoEntry, FilesMeanTrace, FilesHaveEntry, FilesLackEntry, WritesTrace}
use Rattle.trace_command.specs.Promise.{TracePromise}

-- the dialogue means what the files mean, and nothing else
means_trace : (files : Files) (names : TraceNames) (m : TraceMeaning) → FilesMeanTrace files names m → Means files (trace_dialogue names) m
unfolding trace_dialogue
means_trace files names m is =
    let same : record { net = m.net; tables = m.tables; entry = names.entry; dst = names.dst } ≡ m =
    ap (λ e. record m { entry = e; dst = names.dst }) (sym is.entry_is) ∙ ap (λ d. record m { dst = d }) (sym is.dst_is) in
    means_then files _ _ m.net m (means_read files kind.Topology net_words network_in names.topology m.net is.topology_is)
    (means_then files _ _ m.tables m (means_read files kind.Config config_words (configuration_in m.net) names.config m.tables is.config_is) same)

trace_means : (files : Files) (names : TraceNames) (m : TraceMeaning) → Means files (trace_dialogue names) m → FilesMeanTrace files names m
unfolding trace_dialogue
trace_means files names m means =
    let (net, topology_is, second) = means_parts files _ _ m means in
    let (tables, config_is, same) = means_parts files _ _ m second in
    let read : FilesMeanTrace files names (record { net = net; tables = tables; entry = names.entry; dst = names.dst }) = record {
      topology_is = read_means files kind.Topology net_words network_in names.topology net topology_is;
      config_is = read_means files kind.Config config_words (configuration_in net) names.config tables config_is;
      entry_is = refl;
      dst_is = refl;
    } in
    subst (λ v. FilesMeanTrace files names v) same read

-- what is said of the packet, by the status and by the entry
module _ (m : TraceMeaning) (answer : Answer) where
  done_says : IsTraceAnswer m answer → answer.status ≡ status.Done → SaysTrace m answer
  done_says (inl v) is = v
  done_says (inr v) is = absurd (let e = status_of answer _ _ v.answer_is in cc)

  refused_says : IsTraceAnswer m answer → answer.status ≡ status.Refused → SaysNoEntry m answer
  refused_says (inl v) is = absurd (let e = status_of answer _ _ v.answer_is in cc)
  refused_says (inr v) is = v

  entry_says : IsTraceAnswer m answer → (place : Place) → NamesEntry m.net m.entry place → SaysTrace m answer
  entry_says (inl v) place named = v
  entry_says (inr v) place named = absurd (v.none place named)

  none_says : IsTraceAnswer m answer → NamesNoEntry m.net m.entry → SaysNoEntry m answer
  none_says (inl v) none = absurd (none v.trace.place v.trace.named)
  none_says (inr v) none = v

trace_meant : (files : Files) (names : TraceNames) → MeansOnly files (trace_dialogue names) (FilesMeanTrace files names)
trace_meant files names = record { means = means_trace files names; only = trace_means files names }

-- of a settled run of `trace` over a source that tells
module _ (files : Files) (names : TraceNames) (old new : Option (List ℕ)) (result : Status) (r : SaysOfFiles (FilesMeanTrace files names) IsTraceAnswer old new result) where
  done : (result ≡ status.Done) ↔ FilesHaveEntry files names
  done = (
    λ is.
        let (m, mean) = meant r status.Done (λ e. cc) is in
        let says = done_says m r.answer (r.said m mean) (r.status_is ∙ is) in
        record { meaning = m; mean = mean; place = says.trace.place; named = says.trace.named },
    λ h. sym r.status_is ∙ status_of r.answer _ _ (entry_says h.meaning r.answer (r.said h.meaning h.mean) h.place h.named).answer_is,
  )

  trace : result ≡ status.Done → (m : TraceMeaning) → FilesMeanTrace files names m → WritesTrace m old new
  trace is m mean =
      let says = done_says m r.answer (r.said m mean) (r.status_is ∙ is) in
      record { text = says.text; trace = says.trace; written = wrote r says.text (text_of r.answer _ _ says.answer_is) }

  refused : (result ≡ status.Refused) ↔ FilesLackEntry files names
  refused = (
    λ is.
        let (m, mean) = meant r status.Refused (λ e. cc) is in
        record { meaning = m; mean = mean; none = (refused_says m r.answer (r.said m mean) (r.status_is ∙ is)).none },
    λ h. sym r.status_is ∙ status_of r.answer _ _ (none_says h.meaning r.answer (r.said h.meaning h.mean) h.none).answer_is,
  )

  no_entry : result ≡ status.Refused → (m : TraceMeaning) → FilesMeanTrace files names m → Appends old new (no_entry_line m.entry)
  no_entry is m mean = wrote r (no_entry_line m.entry) (text_of r.answer _ _ (refused_says m r.answer (r.said m mean) (r.status_is ∙ is)).answer_is)

pub promised : (files : Files) (names : TraceNames) (old new : Option (List ℕ)) (result : Status) → (IsComplete result → Answered IsTraceAnswer files (trace_dialogue names) old new result) → TracePromise files names old new result
promised files names old new result answered =
    let says : IsComplete result → SaysOfFiles (FilesMeanTrace files names) IsTraceAnswer old new result = λ settled. says_of_files (trace_meant files names) (answered settled) in
    record {
      done = λ settled. done files names old new result (says settled);
      trace = λ m mean is. trace files names old new result (says (settled_done _ is)) is m mean;
      refused = λ settled. refused files names old new result (says settled);
      no_entry = λ m mean is. no_entry files names old new result (says (settled_refused _ is)) is m mean;
    }
