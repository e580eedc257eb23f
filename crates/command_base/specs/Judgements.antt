-- A judgement over the classes of a network: too many of them, good with what follows, or not good and why.
use Rattle.std.specs.Prelude.{◌≡◌, ◌⊎◌, ℕ, ◌<◌, ◌≤◌, List}
use Rattle.command_base.specs.declared.status.Status.TheVariants as status
use Rattle.command_base.specs.Lines.{classes_line}
use Rattle.command_base.specs.Answers.{Answer}

-- the greatest number of classes
abbrev pub most_classes : ℕ
most_classes = 8192

-- there are too many classes
pub record SaysTooMany (count : ℕ) (answer : Answer) : Type 0 where
  pub many : most_classes < count
  pub answer_is : answer ≡ record { status = status.BadFile; text = classes_line count }

-- it is good, and then this follows
pub record SaysHolds (count : ℕ) (good then : Type 0) (text : List ℕ) (answer : Answer) : Type 0 where
  pub few : count ≤ most_classes
  pub holds : good
  pub follows : then
  pub answer_is : answer ≡ record { status = status.Done; text = text }

-- it isn't good, and the line says why
pub record SaysWhyNot (count : ℕ) (good : Type 0) (why : List ℕ → Type 0) (answer : Answer) : Type 0 where
  pub few : count ≤ most_classes
  pub fails : ¬ good
  pub line : List ℕ
  pub is_why : why line
  pub answer_is : answer ≡ record { status = status.Refused; text = line }

-- a judgement over so many classes: one of three, each in its own case
abbrev pub IsJudgement : ℕ → Type 0 → Type 0 → List ℕ → (List ℕ → Type 0) → Answer → Type 0
IsJudgement count good then text why answer = SaysTooMany count answer ⊎ (SaysHolds count good then text answer ⊎ SaysWhyNot count good why answer)
