-- What `sample` says.
use Rattle.std.specs.Prelude.{◌≡◌, ℕ, ◌*◌, ◌-◌, List, ◌++◌, length, codes, decimal}
use Rattle.dest_classes.specs.Classes.{class_count}
use Rattle.certificates.specs.Certified.{classes_for}
use Rattle.certificates.specs.Updates.{task_for}
use Rattle.certificates.specs.declared.Plan.{Plan}
use Rattle.round_planner.specs.Ends.{IsPlanOf}
use Rattle.command_base.specs.declared.status.Status.TheVariants as status
use Rattle.command_base.specs.Answers.{Answer}
use Rattle.round_planner.specs.Updates.{update_target, KeepsConsistent}
use Rattle.ring_sample.specs.Ring.{ring_tables, ring_update}

-- the ring of n switches, and the rounds and classes of its update
abbrev pub update_part : ℕ → ℕ → ℕ → List ℕ
update_part n rounds classes = codes "sample " ++ decimal n ++ codes ": ordered, " ++ decimal rounds ++ codes " rounds, " ++ decimal classes ++ codes " classes, "

-- the lengths of the plan's lists of numberings and picks
abbrev pub evidence_part : ℕ → ℕ → List ℕ
evidence_part numberings picks = decimal numberings ++ codes " numberings, " ++ decimal picks ++ codes " picks, accepted\n"

-- the line on a plan of the ring
abbrev pub sample_line : ℕ → ℕ → ℕ → ℕ → ℕ → List ℕ
sample_line n rounds classes numberings picks = update_part n rounds classes ++ evidence_part numberings picks

-- how many classes the ring's update has with this plan
abbrev pub ring_classes : ℕ → Plan → ℕ
ring_classes n plan = class_count (classes_for (task_for (ring_update n) plan))

-- the line on a plan of the ring of n switches: that of a search which ended ordered, and it is certified and keeps each packet of
-- every run consistent; its rounds and classes are as many as the line says
pub record IsSummary (n : ℕ) (text : List ℕ) : Type 0 where
  pub plan : Plan
  pub searched : IsPlanOf (update_target (ring_update n)) (ring_tables n 2) plan
  pub keeps : KeepsConsistent (ring_update n) plan
  pub rounds : length plan.rounds ≡ 4 * (n - 1)
  pub classes : ring_classes n plan ≡ 6 * n
  pub text_is : text ≡ sample_line n (4 * (n - 1)) (6 * n) (length searched.evidence.numberings) (length searched.evidence.picks)

-- the answer of `sample`
pub record SaysSummary (n : ℕ) (answer : Answer) : Type 0 where
  pub text : List ℕ
  pub summary : IsSummary n text
  pub answer_is : answer ≡ record { status = status.Done; text = text }
