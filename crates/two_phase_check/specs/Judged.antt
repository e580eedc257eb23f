-- The first class of a round of a two-phase plan that mixes the versions.
use Rattle.std.specs.Prelude.{◌≡◌, ℕ, ◌<◌, true, false, List}
use Rattle.dest_classes.specs.Classes.{ClassList, IsClass}
use Rattle.dest_classes.specs.declared.Class.{Class}
use Rattle.demands.specs.Good.{HasGoodPaths}
use Rattle.update_model.specs.Changes.{round_after}
use Rattle.certificates.specs.Updates.{Task}
use Rattle.certificates.specs.declared.Label.{Label}
use Rattle.check_reasons.specs.AtomMarks.{AreTouched}
use Rattle.check_reasons.specs.Touched.{touches}
use Rattle.check_reasons.specs.Least.{IsLeastSwitch}
use Rattle.two_phase_check.specs.Agreements.{RoundView, MixesAt, KeepsVersions}
use Rattle.two_phase_check.specs.declared.two_phase.MixedClass.{MixedClass}

-- each class keeps the versions apart
abbrev pub AllKeepVersions : Task → ℕ → ClassList → List Label → Type 0
AllKeepVersions t k classes labels = (n : ℕ) (class : Class) → IsClass classes n class → KeepsVersions t k class labels

-- where no change of the round covers its address, the class keeps the versions apart
abbrev pub StandsUntouched : Task → ℕ → Class → List Label → Type 0
StandsUntouched t k class labels = touches (round_after k t.rounds) class.first ≡ false → KeepsVersions t k class labels

-- and so does each class
abbrev pub StandUntouched : Task → ℕ → ClassList → List Label → Type 0
StandUntouched t k classes labels = (n : ℕ) (class : Class) → IsClass classes n class → StandsUntouched t k class labels

-- classes that can be judged in a round: they have their entries at the host ports, good paths in both configurations and the marks of the round
pub record AreReady (round : RoundView) (classes : ClassList) : Type 0 where
  pub hosts : classes.hosts ≡ round.task.update.net.hosts
  pub old_good : HasGoodPaths round.task.update.net round.task.update.old round.task.update.demands classes
  pub new_good : HasGoodPaths round.task.update.net round.task.update.new round.task.update.demands classes
  pub touched : AreTouched classes (round_after round.number round.task.rounds) round.touched
  pub stands : round.stands ≡ true → StandUntouched round.task round.number classes round.labels

-- the class with this number keeps the versions apart
abbrev pub KeepsVersionsAt : RoundView → ClassList → ℕ → Type 0
KeepsVersionsAt round classes n = (class : Class) → IsClass classes n class → KeepsVersions round.task round.number class round.labels

-- a class that mixes the versions, and the least switch where it does
pub record IsMixed (t : Task) (k : ℕ) (classes : ClassList) (labels : List Label) (mixed : MixedClass) : Type 0 where
  pub class : Class
  pub is_class : IsClass classes mixed.class class
  pub only : (other : Class) → IsClass classes mixed.class other → other ≡ class
  pub least : IsLeastSwitch (MixesAt t k class labels) mixed.switch

-- the least class that mixes the versions, and the least switch where it does
pub record IsFirstMixed (t : Task) (k : ℕ) (classes : ClassList) (labels : List Label) (mixed : MixedClass) : Type 0 where
  pub is_mixed : IsMixed t k classes labels mixed
  pub earlier : (n : ℕ) (other : Class) → n < mixed.class → IsClass classes n other → KeepsVersions t k other labels
