-- What is said of the mixed walks of a plan.
use Rattle.std.specs.Prelude.{◌≡◌, ◌⊎◌, ℕ, ◌<◌, true, false, List, [], ◌∷◌, length, Option, None, Ok, codes}
use Rattle.std.specs.Io.KnownBytes.{Appends}
use Rattle.dest_classes.specs.Classes.{IsClass}
use Rattle.dest_classes.specs.declared.Class.{Class}
use Rattle.update_model.specs.Mixtures.{AreGoodRounds, AreClearRounds}
use Rattle.update_model.specs.Runs.{IsRun, state_after_run}
use Rattle.update_model.specs.declared.Event.{Event}
use Rattle.update_model.specs.declared.Packet.{Packet}
use Rattle.certificates.specs.Updates.{Task, rollout}
use Rattle.certificates.specs.Certified.{classes_for, is_two_phase}
use Rattle.certificates.specs.declared.Evidence.{Evidence}
use Rattle.check_reasons.specs.declared.reason.Reason.{Reason}
use Rattle.round_tables.specs.Sound.{IsFirstRoundReason}
use Rattle.plan_checker.specs.Checking.{EndsAreGood}
use Rattle.schedule_replay.specs.EventTexts.{schedule_text}
use Rattle.schedule_replay.specs.Schedules.{schedule_in, numbered_lines, events_of}
use Rattle.counter_run.specs.Explaining.{ClassBreaks, NoneBreaks, IsFirstBreakingRun}
use Rattle.counter_run.specs.Showing.{HasGoodTrace}
use Rattle.command_base.specs.Answers.{Answer}
use Rattle.command_base.specs.Judgements.{IsJudgement}
use Rattle.check_base.specs.Checks.{CheckMeaning, IsRefusedLine, check_count, task_in}
use Rattle.check_base.specs.ReasonLines.{refused_line}

-- on a two-phase plan
abbrev pub two_phase_line : List ℕ
two_phase_line = codes "no run: two-phase plan\n"

-- on a plan of which no mixed walk breaks the duties of its class
abbrev pub nothing_line : List ℕ
nothing_line = codes "no run: every mixed walk is good\n"

-- no class breaks in any round
abbrev pub NothingBreaks : Task → Type 0
NothingBreaks t = (k : ℕ) → k < length t.rounds → NoneBreaks (rollout t) (classes_for t) t.update.demands k

-- some class breaks in some round
pub record SomethingBreaks (t : Task) : Type 0 where
  pub round : ℕ
  pub within : round < length t.rounds
  pub number : ℕ
  pub class : Class
  pub is_class : IsClass (classes_for t) number class
  pub breaks : ClassBreaks (rollout t) t.update.demands round class

-- a plan whose mixed walks are looked at: both configurations have good paths, each round is good and clear, and the plan is ordered
pub record IsExplainable (t : Task) (evidence : Evidence) : Type 0 where
  pub ends : EndsAreGood t
  pub good : AreGoodRounds (rollout t)
  pub clear : AreClearRounds (rollout t)
  pub ordered : is_two_phase evidence ≡ false

-- the text is the schedule of a run in which a packet breaks its duties
pub record IsBreakingSchedule (t : Task) (text : List ℕ) : Type 0 where
  pub events : List Event
  -- the run is of the first round in which a class breaks, for the first such class there
  pub first : IsFirstBreakingRun (rollout t) (classes_for t) t.update.demands events
  -- the text is its events, a line each; read as a schedule it means these events
  pub text_is : text ≡ schedule_text t.update.net events
  pub means : schedule_in t.update.net text ≡ Ok (numbered_lines 1 events)
  -- what is read can be replayed whole
  pub replayed : IsRun (rollout t) (events_of (numbered_lines 1 events))
  -- there is one packet in the end, whose trace isn't good for its duties
  pub packet : Packet
  pub only : (state_after_run (rollout t) (events_of (numbered_lines 1 events))).packets ≡ packet ∷ []
  pub broken : ¬ HasGoodTrace t.update.demands packet

-- the text says that no class breaks in any round
pub record SaysNothingBreaks (t : Task) (text : List ℕ) : Type 0 where
  pub none : NothingBreaks t
  pub text_is : text ≡ nothing_line

-- what is said of a plan whose mixed walks are looked at
abbrev pub IsExplanation : Task → List ℕ → Type 0
IsExplanation t text = IsBreakingSchedule t text ⊎ SaysNothingBreaks t text

-- a class has no good path in the old or the new configuration; the line names the first reason why the plan isn't certified
pub record SaysEndBreaks (t : Task) (evidence : Evidence) (line : List ℕ) : Type 0 where
  pub fails : ¬ EndsAreGood t
  pub names : IsRefusedLine t evidence line

-- both configurations are good, but not the rounds; the line names the first bad change or the first switch that isn't clear
pub record SaysUnsoundRound (t : Task) (line : List ℕ) : Type 0 where
  pub ends : EndsAreGood t
  pub reason : Reason
  pub first : IsFirstRoundReason (rollout t) reason
  pub line_is : line ≡ refused_line t.update.net None reason

-- configurations and rounds are good, but it is a two-phase plan
pub record SaysTwoPhase (t : Task) (evidence : Evidence) (line : List ℕ) : Type 0 where
  pub ends : EndsAreGood t
  pub good : AreGoodRounds (rollout t)
  pub clear : AreClearRounds (rollout t)
  pub two_phase : is_two_phase evidence ≡ true
  pub line_is : line ≡ two_phase_line

-- why the mixed walks of a plan aren't looked at: the first cause
abbrev pub IsWhyNot : Task → Evidence → List ℕ → Type 0
IsWhyNot t evidence line = SaysEndBreaks t evidence line ⊎ (SaysUnsoundRound t line ⊎ SaysTwoPhase t evidence line)

-- the mixed walks of the plan that was read can be looked at
abbrev pub CanBeExplained : CheckMeaning → Type 0
CanBeExplained m = IsExplainable (task_in m) m.plan.evidence

-- the line says why they can't
abbrev pub IsCauseLine : CheckMeaning → List ℕ → Type 0
IsCauseLine m line = IsWhyNot (task_in m) m.plan.evidence line

-- the answer of `explain`: too many classes; what is said of the mixed walks; or why they aren't looked at
abbrev pub IsExplainAnswer : CheckMeaning → Answer → Type 0
IsExplainAnswer m answer = IsJudgement (check_count m) (CanBeExplained m) (IsExplanation (task_in m) answer.text) answer.text (IsCauseLine m) answer

-- the schedule of a run in which a packet breaks its duties was written
pub record WritesBreakingRun (m : CheckMeaning) (old new : Option (List ℕ)) : Type 0 where
  pub text : List ℕ
  pub shows : IsBreakingSchedule (task_in m) text
  pub written : Appends old new text

-- no class breaks in any round, and the line that says so was written
pub record WritesNothingBreaks (m : CheckMeaning) (old new : Option (List ℕ)) : Type 0 where
  pub none : NothingBreaks (task_in m)
  pub written : Appends old new nothing_line
