-- The old and the new configuration of an update against its demands.
use Rattle.std.specs.Prelude.{Bool, IsTrue, List, if◌then◌else◌}
use Rattle.topology.specs.Networks.{Network}
use Rattle.flow_rules.specs.declared.rules.Rule.{Rule}
use Rattle.dest_classes.specs.Classes.{ClassList}
use Rattle.demands.specs.Duties.{DemandView}
use Rattle.demands.specs.Good.{HasGoodPaths}
use Rattle.config_check.specs.Broken.{IsFirstBreak}
use Rattle.config_check.specs.declared.Breaks.{Breaks}

-- both configurations have good paths for all classes
pub record AreGoodEnds (net : Network) (old new : List (List Rule)) (demands : List DemandView) (classes : ClassList) : Type 0 where
  pub old_good : HasGoodPaths net old demands classes
  pub new_good : HasGoodPaths net new demands classes

-- the first break of the old configuration, or of the new one where the old one is good
pub record IsFirstEndBreak (net : Network) (old new : List (List Rule)) (demands : List DemandView) (classes : ClassList) (in_new : Bool) (break : Breaks) : Type 0 where
  pub first : IsFirstBreak net (if in_new then new else old) demands classes break
  pub old_good : IsTrue in_new → HasGoodPaths net old demands classes
