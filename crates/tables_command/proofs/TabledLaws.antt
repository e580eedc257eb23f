-- What a run of `tables` says of the files of a source that tells.
use Rattle.std.proofs.Common.{◌≡◌, ◌↔◌, ℕ, List, [], ◌∷◌, ◌++◌, refl, sym, ◌∙◌, subst, inl, inr}
use Rattle.std.specs.Prelude.{Result, Ok, Err, IfOk}
use Rattle.std.specs.declared.option.Option.{Option}
use Rattle.std.specs.Io.KnownBytes.{Appends}
use Rattle.file_access.specs.Outside.{Files}
use Rattle.topology_files.specs.Topology.{network_in}
use Rattle.config_files.specs.Configuration.{configuration_in}
use Rattle.plan_format.specs.Plans.{plan_in}
use Rattle.update_model.specs.Mixtures.{Rollout}
use Rattle.two_way_replay.specs.Courses.{CourseState, IsCourse, IsStepEnabled, AreStepsEnabled, course_after, course_state}
use Rattle.two_way_replay.specs.CourseWorlds.{CourseWorld, StopsAtStep}
use Rattle.two_way_replay.specs.TwoWaySchedules.{two_way_schedule_in, steps_of}
use Rattle.two_way_replay.specs.declared.schedule.TwoWayLine.{TwoWayLine}
use Rattle.command_base.specs.declared.status.Status.{Status}
use Rattle.command_base.specs.declared.status.Status.TheVariants as status
use Rattle.command_base.specs.declared.kinds.FileKind.TheVariants as kind
use Rattle.command_base.specs.Lines.{net_words, config_words, plan_words}
use Rattle.command_base.specs.Answers.{Answer}
use Rattle.command_base.specs.Meanings.{Means}
use Rattle.command_base.specs.declared.reply.Reply.{Reply}
use Rattle.command_base.specs.Replies.{answer_of}
use Rattle.command_base.specs.Runs.{Answered}
use Rattle.command_base.proofs.MeaningLaws.{MeansOnly, means_then, means_parts, means_read, read_means}
use Rattle.command_base.proofs.AnswerLaws.{SaysOfFiles, says_of_files, meant, wrote, status_of, text_of}
use Rattle.replay_command.specs.Names.{ReplayNames}
use Rattle.replay_command.specs.Replayed.{schedule_words, not_a_run_line}
use Rattle.tables_command.specs.Listed.{tables_of, IsReadAsLast, IsTablesAnswer}
use Rattle.tables_command.specs.Promise.{WritesTables}
use Rattle.tables_command.specs.Tabled.{TablesMeaning, tables_dialogue, tables_rollout, begin_course, SaysOfCourse, SaysNoCourse, FirstStopsAtStep, FilesMeanTables, FilesAreACourse, FilesAreNoCourse, NamesFirstStep}

-- the dialogue means what the files mean, and nothing else
means_tables : (files : Files) (names : ReplayNames) (m : TablesMeaning) → FilesMeanTables files names m → Means files (tables_dialogue names) m
unfolding tables_dialogue
means_tables files names m is =
    means_then files _ _ m.net m (means_read files kind.Topology net_words network_in names.topology m.net is.topology_is)
    (means_then files _ _ m.old m (means_read files kind.Old config_words (configuration_in m.net) names.old m.old is.old_is)
    (means_then files _ _ m.plan m (means_read files kind.Plan plan_words (plan_in m.net) names.plan m.plan is.plan_is)
    (means_then files _ _ m.schedule m (means_read files kind.Schedule schedule_words (two_way_schedule_in m.net) names.schedule m.schedule is.schedule_is) refl)))

tables_means : (files : Files) (names : ReplayNames) (m : TablesMeaning) → Means files (tables_dialogue names) m → FilesMeanTables files names m
unfolding tables_dialogue
tables_means files names m means =
    let (net, topology_is, second) = means_parts files _ _ m means in
    let (old, old_is, third) = means_parts files _ _ m second in
    let (plan, plan_is, fourth) = means_parts files _ _ m third in
    let (schedule, schedule_is, same) = means_parts files _ _ m fourth in
    let read : FilesMeanTables files names (record { net = net; old = old; plan = plan; schedule = schedule }) = record {
      topology_is = read_means files kind.Topology net_words network_in names.topology net topology_is;
      old_is = read_means files kind.Old config_words (configuration_in net) names.old old old_is;
      plan_is = read_means files kind.Plan plan_words (plan_in net) names.plan plan plan_is;
      schedule_is = read_means files kind.Schedule schedule_words (two_way_schedule_in net) names.schedule schedule schedule_is;
    } in
    subst (λ v. FilesMeanTables files names v) same read

-- where the steps are enabled in turn, so is one behind some of them
pub next_step : (u : Rollout) (c : CourseState) (first : List TwoWayLine) (line : TwoWayLine) (rest : List TwoWayLine)
    → AreStepsEnabled u c (steps_of (first ++ line ∷ rest)) → IsStepEnabled u (course_state u c (steps_of first)) line.step
next_step u c [] line rest enabled = enabled.0
next_step u c (l ∷ first) line rest enabled = next_step u (course_after u c l.step) first line rest enabled.1

-- a schedule that stops is no course
stops_no_course : (m : TablesMeaning) (number : ℕ) → FirstStopsAtStep m number → ¬ IsCourse (tables_rollout m) (steps_of m.schedule)
stops_no_course m number at run =
    let s = at.stops in
    let all = subst (λ lines. AreStepsEnabled (tables_rollout m) (begin_course m).course (steps_of lines)) s.before.parts run in
    let next = next_step (tables_rollout m) (begin_course m).course s.first s.line s.rest all in
    s.not_enabled (subst (λ w. IsStepEnabled w.update w.course s.line.step) (sym s.before.after) next)

-- what is said of a schedule, by the status
module _ (m : TablesMeaning) (answer : Answer) where
  done_says : IsTablesAnswer m answer → answer.status ≡ status.Done → SaysOfCourse tables_of m answer
  done_says (inl v) is = v.says
  done_says (inr v) is = absurd (let e = status_of answer _ _ v.answer_is in cc)

  done_reads : IsTablesAnswer m answer → answer.status ≡ status.Done → IsReadAsLast m (tables_of m)
  done_reads (inl v) is = v.read_back
  done_reads (inr v) is = absurd (let e = status_of answer _ _ v.answer_is in cc)

  stop_says : IsTablesAnswer m answer → answer.status ≡ status.NotARun → SaysNoCourse m answer
  stop_says (inl v) is = absurd (let e = status_of answer _ _ v.says.answer_is in cc)
  stop_says (inr v) is = v

  run_says : IsTablesAnswer m answer → IsCourse (tables_rollout m) (steps_of m.schedule) → SaysOfCourse tables_of m answer
  run_says (inl v) run = v.says
  run_says (inr v) run = absurd (stops_no_course m v.line v.first run)

  no_run_says : IsTablesAnswer m answer → ¬ IsCourse (tables_rollout m) (steps_of m.schedule) → SaysNoCourse m answer
  no_run_says (inl v) none = absurd (none v.says.run)
  no_run_says (inr v) none = v

-- the line of a step that isn't enabled, where it is written
pub says_stop : {E : Type 0} (m : TablesMeaning) (world : CourseWorld) (line : ℕ) → StopsAtStep (begin_course m) world m.schedule line
    → (r : Result Reply E) → IfOk r (λ x. answer_of x ≡ record { status = status.NotARun; text = not_a_run_line line }) → IfOk r (λ x. IsTablesAnswer m (answer_of x))
says_stop m world line at (Ok x) is = inr (record { line = line; first = record { world = world; stops = at }; answer_is = is })
says_stop m world line at (Err e) is = tt

tables_meant : (files : Files) (names : ReplayNames) → MeansOnly files (tables_dialogue names) (FilesMeanTables files names)
tables_meant files names = record { means = means_tables files names; only = tables_means files names }

-- of a settled run over a source that tells
module _ (files : Files) (names : ReplayNames) (old new : Option (List ℕ)) (result : Status) (a : Answered IsTablesAnswer files (tables_dialogue names) old new result) where
  abbrev run : SaysOfFiles (FilesMeanTables files names) IsTablesAnswer old new result
  run = says_of_files (tables_meant files names) a

  -- and of what the files mean
  module _ (m : TablesMeaning) (mean : FilesMeanTables files names m) where
    pub done_run : result ≡ status.Done → SaysOfCourse tables_of m a.answer
    done_run is = done_says m a.answer (run.said m mean) (a.status_is ∙ is)

    pub run_done : IsCourse (tables_rollout m) (steps_of m.schedule) → result ≡ status.Done
    run_done course = sym a.status_is ∙ status_of a.answer _ _ (run_says m a.answer (run.said m mean) course).answer_is

    pub stopped : result ≡ status.NotARun → SaysNoCourse m a.answer
    stopped is = stop_says m a.answer (run.said m mean) (a.status_is ∙ is)

    pub stops_run : ¬ IsCourse (tables_rollout m) (steps_of m.schedule) → result ≡ status.NotARun
    stops_run none = sym a.status_is ∙ status_of a.answer _ _ (no_run_says m a.answer (run.said m mean) none).answer_is

    pub no_course : result ≡ status.NotARun → ¬ IsCourse (tables_rollout m) (steps_of m.schedule)
    no_course is = let says = stopped is in stops_no_course m says.line says.first

    pub written_of : result ≡ status.Done → Appends old new (tables_of m)
    written_of is = wrote run (tables_of m) (text_of a.answer _ _ (done_run is).answer_is)

    pub reads_of : result ≡ status.Done → WritesTables m old new
    reads_of is = record { text = tables_of m; read_back = done_reads m a.answer (run.said m mean) (a.status_is ∙ is); written = written_of is }

    pub line_of : (is : result ≡ status.NotARun) → Appends old new (not_a_run_line (stopped is).line)
    line_of is = wrote run _ (text_of a.answer _ _ (stopped is).answer_is)

  pub done : (result ≡ status.Done) ↔ FilesAreACourse files names
  done = (
    λ is.
        let (m, mean) = meant run status.Done (λ e. cc) is in
        record { meaning = m; mean = mean; run = (done_run m mean is).run },
    λ h. run_done h.meaning h.mean h.run,
  )

  pub not_a_run : (result ≡ status.NotARun) ↔ FilesAreNoCourse files names
  not_a_run = (
    λ is.
        let (m, mean) = meant run status.NotARun (λ e. cc) is in
        record { meaning = m; mean = mean; stops = no_course m mean is },
    λ h. stops_run h.meaning h.mean h.stops,
  )

  pub first_step : (m : TablesMeaning) → FilesMeanTables files names m → result ≡ status.NotARun → NamesFirstStep m old new
  first_step m mean is = record { line = (stopped m mean is).line; first = (stopped m mean is).first; written = line_of m mean is }
