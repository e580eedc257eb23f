-- How far evidence has been made.
use Rattle.std.specs.Prelude.{◌≡◌, ℕ, ◌<◌, Bool, List}
use Rattle.dest_classes.specs.Classes.{class_count}
use Rattle.update_model.specs.Mixtures.{tables_before}
use Rattle.certificates.specs.Updates.{Task, rollout}
use Rattle.certificates.specs.Certified.{classes_for}
use Rattle.certificates.specs.declared.Evidence.{Evidence}
use Rattle.check_reasons.specs.Cases.{CaseView}
use Rattle.check_reasons.specs.Passed.{ChangesPass}
use Rattle.evidence_store.specs.State.{StoreState}
use Rattle.table_difference.specs.Targets.{Target}
use Rattle.round_judge.specs.Goals.{HasAtoms}
use Rattle.round_judge.specs.Evidence.{HasEvidenceTo}
use Rattle.round_judge.specs.Visits.{HoldTables}

-- what the rounds of a task are for
abbrev pub target_for : Task → Target
target_for t = record { net = t.update.net; new = t.update.new; demands = t.update.demands; classes = classes_for t }

-- the changes of the first k rounds give no reason
abbrev pub ChangesPassTo : Task → Evidence → ℕ → Type 0
ChangesPassTo t evidence k = (j : ℕ) → j < k → ChangesPass t evidence j

-- there is evidence for the first k rounds, whose changes give no reason; and where packets come to after them is known
pub record IsCertifiedTo (c : CaseView) (k : ℕ) (store : StoreState) (came : List ℕ) (looked : List Bool) : Type 0 where
  pub passed : ChangesPassTo c.task c.evidence k
  pub evidence : HasEvidenceTo (target_for c.task) (rollout c.task) k store.evidence
  pub classes : store.classes ≡ class_count (classes_for c.task)
  pub visits : HoldTables (target_for c.task) (tables_before (rollout c.task) k) came
  pub atoms : HasAtoms (classes_for c.task) looked
