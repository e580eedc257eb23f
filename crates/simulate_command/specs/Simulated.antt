-- What is said of the plan that is simulated.
use Rattle.std.specs.Prelude.{ℕ, List, Option}
use Rattle.std.specs.Io.KnownBytes.{Appends}
use Rattle.command_base.specs.Answers.{Answer}
use Rattle.command_base.specs.Judgements.{IsJudgement}
use Rattle.check_base.specs.Checks.{CheckMeaning, IsCertifiedPlan, IsReasonLine, check_count, task_in}
use Rattle.simulate_command.specs.Simulations.{IsRecord}

-- the answer of `simulate`: too many classes; over a certified plan, the record of a simulation; or why the plan isn't certified
abbrev pub IsSimulateAnswer : ℕ → ℕ → CheckMeaning → Answer → Type 0
IsSimulateAnswer start count m answer =
    IsJudgement (check_count m) (IsCertifiedPlan m) (IsRecord start count (task_in m) answer.text) answer.text (IsReasonLine m) answer

-- the record of a simulation was written
pub record WritesRecord (start count : ℕ) (m : CheckMeaning) (old new : Option (List ℕ)) : Type 0 where
  pub text : List ℕ
  pub record_of : IsRecord start count (task_in m) text
  pub written : Appends old new text
