-- What `check` says of a plan.
use Rattle.std.specs.Prelude.{length}
use Rattle.dest_classes.specs.Classes.{class_count}
use Rattle.certificates.specs.Updates.{Task}
use Rattle.certificates.specs.Certified.{IsCertified, classes_for, is_two_phase}
use Rattle.certificates.specs.Consistent.{IsConsistent}
use Rattle.certificates.specs.declared.Evidence.{Evidence}
use Rattle.command_base.specs.Answers.{Answer}
use Rattle.command_base.specs.Judgements.{IsJudgement}
use Rattle.check_base.specs.Checks.{CheckMeaning, IsRefusedLine, task_in}
use Rattle.check_command.specs.AcceptedLine.{accepted_line}

-- the answer on a plan: one that is certified keeps every packet of every run consistent
abbrev pub IsPlanVerdict : Task → Evidence → Answer → Type 0
IsPlanVerdict t evidence answer =
    IsJudgement (class_count (classes_for t)) (IsCertified t evidence) (IsConsistent t.update t.rounds (is_two_phase evidence))
    (accepted_line evidence (length t.rounds) (class_count (classes_for t))) (IsRefusedLine t evidence) answer

-- the answer of `check`: the verdict on the plan that was read
abbrev pub IsCheckAnswer : CheckMeaning → Answer → Type 0
IsCheckAnswer m answer = IsPlanVerdict (task_in m) m.plan.evidence answer
