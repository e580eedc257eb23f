-- What a run of `replay`, or of a command that writes another text of a recorded run, says of the files of a source that tells.
use Rattle.std.proofs.Common.{◌≡◌, ◌↔◌, ℕ, List, [], ◌∷◌, ◌++◌, refl, sym, ◌∙◌, subst, inl, inr}
use Rattle.std.specs.declared.option.Option.{Option}
use Rattle.std.specs.Io.KnownBytes.{Appends}
use Rattle.file_access.specs.Outside.{Files}
use Rattle.topology.specs.Networks.{Network}
use Rattle.topology_files.specs.Topology.{network_in}
use Rattle.config_files.specs.Configuration.{configuration_in}
use Rattle.plan_format.specs.Plans.{plan_in}
use Rattle.update_model.specs.declared.Change.{Change}
use Rattle.update_model.specs.Runs.{IsRun, AreEnabled, state_after}
use Rattle.update_model.specs.States.{State, IsEnabled, state_after_event}
use Rattle.schedule_replay.specs.Schedules.{schedule_in, events_of}
use Rattle.schedule_replay.specs.declared.schedule.ScheduleLine.{ScheduleLine}
use Rattle.command_base.specs.declared.status.Status.{Status}
use Rattle.command_base.specs.declared.status.Status.TheVariants as status
use Rattle.command_base.specs.declared.kinds.FileKind.TheVariants as kind
use Rattle.command_base.specs.Lines.{net_words, config_words, plan_words}
use Rattle.command_base.specs.Answers.{Answer}
use Rattle.command_base.specs.Meanings.{Means}
use Rattle.command_base.specs.Runs.{IsComplete, Answered}
use Rattle.command_base.proofs.MeaningLaws.{MeansOnly, means_then, means_parts, means_read, read_means}
use Rattle.command_base.proofs.AnswerLaws.{SaysOfFiles, says_of_files, meant, wrote, status_of, text_of}
use Rattle.command_base.proofs.RunLaws.{settled_done, settled_not_a_run}
use Rattle.replay_command.specs.Names.{ReplayNames}
use Rattle.replay_command.specs.Replayed.{ReplayMeaning, replay_dialogue, schedule_words, traces_of, IsRunAnswer, IsReplayAnswer, SaysOfRun, SaysNotARun, FilesMeanReplay, FilesAreARun, FilesAreNoRun, FirstStopsAt, NamesFirstLine, replay_rollout, begin_state}
use Rattle.replay_command.specs.Promise.{ReplayPromise}

-- the dialogue means what the files mean, and nothing else
means_replay : (files : Files) (names : ReplayNames) (m : ReplayMeaning) → FilesMeanReplay files names m → Means files (replay_dialogue names) m
unfolding replay_dialogue
means_replay files names m is =
    means_then files _ _ m.net m (means_read files kind.Topology net_words network_in names.topology m.net is.topology_is)
    (means_then files _ _ m.old m (means_read files kind.Old config_words (configuration_in m.net) names.old m.old is.old_is)
    (means_then files _ _ m.plan m (means_read files kind.Plan plan_words (plan_in m.net) names.plan m.plan is.plan_is)
    (means_then files _ _ m.schedule m (means_read files kind.Schedule schedule_words (schedule_in m.net) names.schedule m.schedule is.schedule_is) refl)))

replay_means : (files : Files) (names : ReplayNames) (m : ReplayMeaning) → Means files (replay_dialogue names) m → FilesMeanReplay files names m
unfolding replay_dialogue
replay_means files names m means =
    let (net, topology_is, second) = means_parts files _ _ m means in
    let (old, old_is, third) = means_parts files _ _ m second in
    let (plan, plan_is, fourth) = means_parts files _ _ m third in
    let (schedule, schedule_is, same) = means_parts files _ _ m fourth in
    let read : FilesMeanReplay files names (record { net = net; old = old; plan = plan; schedule = schedule }) = record {
      topology_is = read_means files kind.Topology net_words network_in names.topology net topology_is;
      old_is = read_means files kind.Old config_words (configuration_in net) names.old old old_is;
      plan_is = read_means files kind.Plan plan_words (plan_in net) names.plan plan plan_is;
      schedule_is = read_means files kind.Schedule schedule_words (schedule_in net) names.schedule schedule schedule_is;
    } in
    subst (λ v. FilesMeanReplay files names v) same read

-- where the events are enabled in turn, so is one behind some of them
next_enabled : (net : Network) (rounds : List (List Change)) (state : State) (first : List ScheduleLine) (line : ScheduleLine) (rest : List ScheduleLine)
    → AreEnabled net rounds state (events_of (first ++ line ∷ rest)) → IsEnabled net rounds (state_after net rounds state (events_of first)) line.event
next_enabled net rounds state [] line rest enabled = enabled.0
next_enabled net rounds state (l ∷ first) line rest enabled = next_enabled net rounds (state_after_event net rounds state l.event) first line rest enabled.1

-- a schedule that stops is no run
stops_no_run : (m : ReplayMeaning) (number : ℕ) → FirstStopsAt m number → ¬ IsRun (replay_rollout m) (events_of m.schedule)
stops_no_run m number at run =
    let s = at.stops in
    let all = subst (λ lines. AreEnabled m.net m.plan.rounds (begin_state m).state (events_of lines)) s.before.parts run in
    let next = next_enabled m.net m.plan.rounds (begin_state m).state s.first s.line s.rest all in
    s.not_enabled (subst (λ w. IsEnabled w.net w.rounds w.state s.line.event) (sym s.before.after) next)

-- what is said of a schedule, by the status
module _ (text : ReplayMeaning → List ℕ) (m : ReplayMeaning) (answer : Answer) where
  done_says : IsRunAnswer text m answer → answer.status ≡ status.Done → SaysOfRun text m answer
  done_says (inl v) is = v
  done_says (inr v) is = absurd (let e = status_of answer _ _ v.answer_is in cc)

  stop_says : IsRunAnswer text m answer → answer.status ≡ status.NotARun → SaysNotARun m answer
  stop_says (inl v) is = absurd (let e = status_of answer _ _ v.answer_is in cc)
  stop_says (inr v) is = v

  run_says : IsRunAnswer text m answer → IsRun (replay_rollout m) (events_of m.schedule) → SaysOfRun text m answer
  run_says (inl v) run = v
  run_says (inr v) run = absurd (stops_no_run m v.line v.first run)

  no_run_says : IsRunAnswer text m answer → ¬ IsRun (replay_rollout m) (events_of m.schedule) → SaysNotARun m answer
  no_run_says (inl v) none = absurd (none v.run)
  no_run_says (inr v) none = v

pub replay_meant : (files : Files) (names : ReplayNames) → MeansOnly files (replay_dialogue names) (FilesMeanReplay files names)
replay_meant files names = record { means = means_replay files names; only = replay_means files names }

-- of a settled run, over a source that tells, of a command that writes this text of a run
module _ (text : ReplayMeaning → List ℕ) (files : Files) (names : ReplayNames) (old new : Option (List ℕ)) (result : Status) (a : Answered (IsRunAnswer text) files (replay_dialogue names) old new result) where
  abbrev run : SaysOfFiles (FilesMeanReplay files names) (IsRunAnswer text) old new result
  run = says_of_files (replay_meant files names) a

  pub done : (result ≡ status.Done) ↔ FilesAreARun files names
  done = (
    λ is.
        let (m, mean) = meant run status.Done (λ e. cc) is in
        record { meaning = m; mean = mean; run = (done_says text m a.answer (run.said m mean) (a.status_is ∙ is)).run },
    λ h. sym a.status_is ∙ status_of a.answer _ _ (run_says text h.meaning a.answer (run.said h.meaning h.mean) h.run).answer_is,
  )

  pub written_of : result ≡ status.Done → (m : ReplayMeaning) → FilesMeanReplay files names m → Appends old new (text m)
  written_of is m mean = wrote run (text m) (text_of a.answer _ _ (done_says text m a.answer (run.said m mean) (a.status_is ∙ is)).answer_is)

  pub not_a_run : (result ≡ status.NotARun) ↔ FilesAreNoRun files names
  not_a_run = (
    λ is.
        let (m, mean) = meant run status.NotARun (λ e. cc) is in
        let says = stop_says text m a.answer (run.said m mean) (a.status_is ∙ is) in
        record { meaning = m; mean = mean; stops = stops_no_run m says.line says.first },
    λ h. sym a.status_is ∙ status_of a.answer _ _ (no_run_says text h.meaning a.answer (run.said h.meaning h.mean) h.stops).answer_is,
  )

  pub first_line : result ≡ status.NotARun → (m : ReplayMeaning) → FilesMeanReplay files names m → NamesFirstLine m old new
  first_line is m mean =
      let says = stop_says text m a.answer (run.said m mean) (a.status_is ∙ is) in
      record { line = says.line; first = says.first; written = wrote run _ (text_of a.answer _ _ says.answer_is) }

pub promised : (files : Files) (names : ReplayNames) (old new : Option (List ℕ)) (result : Status) → (IsComplete result → Answered IsReplayAnswer files (replay_dialogue names) old new result) → ReplayPromise files names old new result
promised files names old new result answered = record {
  done = λ settled. done traces_of files names old new result (answered settled);
  traces = λ m mean is. written_of traces_of files names old new result (answered (settled_done _ is)) is m mean;
  not_a_run = λ settled. not_a_run traces_of files names old new result (answered settled);
  first = λ m mean is. first_line traces_of files names old new result (answered (settled_not_a_run _ is)) is m mean;
}
