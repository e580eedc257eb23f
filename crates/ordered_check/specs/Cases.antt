-- What is checked of an ordered plan, and a round of it.
use Rattle.std.specs.Prelude.{◌≡◌, ℕ, ◌<◌, List, length}
use Rattle.dest_classes.specs.Classes.{ClassList}
use Rattle.demands.specs.Duties.{ClassDuties}
use Rattle.update_model.specs.Changes.{round_after}
use Rattle.update_model.specs.declared.Change.{Change}
use Rattle.round_mix.specs.Prepared.{MixedState}
use Rattle.certificates.specs.Updates.{Task, rollout}
use Rattle.certificates.specs.Certified.{classes_for}
use Rattle.certificates.specs.declared.OrderedEvidence.{OrderedEvidence}
use Rattle.certificates.specs.declared.Evidence.TheVariants.{Ordered}
use Rattle.check_reasons.specs.Cases.{CaseView}
use Rattle.check_reasons.specs.Loaded.{AreLoaded}
use Rattle.check_reasons.specs.Passed.{ChangesPass, RoundsPass}

-- an update with the evidence of its ordered plan
pub record OrderedView : Type 0 where
  pub task : Task
  pub evidence : OrderedEvidence

-- this is the evidence of the case, and the classes and duties are those of its update
pub record IsOrderedCase (c : CaseView) (evidence : OrderedEvidence) (classes : ClassList) (duties : ClassDuties) : Type 0 where
  pub evidence_is : c.evidence ≡ Ordered evidence
  pub classes_are : classes ≡ classes_for c.task
  pub duties_are : duties ≡ record { demands = c.task.update.demands; classes = classes }

-- round k is one of the update, these are its changes, and they give no reason; nor does any round before; the switches are prepared for it
pub record IsRound (t : Task) (e : OrderedEvidence) (k : ℕ) (changes : List Change) (mixes : List MixedState) : Type 0 where
  pub within : k < length t.rounds
  pub changes_are : changes ≡ round_after k t.rounds
  pub loaded : AreLoaded (rollout t) k mixes
  pub before : RoundsPass t (Ordered e) k
  pub pass : ChangesPass t (Ordered e) k
