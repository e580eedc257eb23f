-- What is said of a configuration.
use Rattle.std.specs.Prelude.{◌≡◌, ℕ, List, ◌++◌, map}
use Rattle.topology.specs.Networks.{Network}
use Rattle.flow_rules.specs.Tables.{table_blocks}
use Rattle.flow_rules.specs.declared.rules.Rule.{Rule}
use Rattle.dest_classes.specs.Classes.{ClassList, IsClass, classes_of, class_count}
use Rattle.dest_classes.specs.declared.Class.{Class}
use Rattle.demands.specs.Duties.{DemandView}
use Rattle.demands.specs.Good.{HasGoodPaths}
use Rattle.config_check.specs.declared.Breaks.{Breaks}
use Rattle.config_check.specs.Broken.{IsFirstBreak}
use Rattle.config_check.specs.Everywhere.{HasGoodPathEverywhere}
use Rattle.command_base.specs.Answers.{Answer}
use Rattle.command_base.specs.Judgements.{IsJudgement}
use Rattle.config_command.specs.Lines.{holds_line, breaks_line}

-- the classes of a configuration under a policy: those of its own prefixes and of the demands'
abbrev pub classes_under : Network → List (List Rule) → List DemandView → ClassList
classes_under net tables demands = classes_of net (table_blocks tables ++ map (λ d. d.dst) demands)

-- how many they are
abbrev pub count_under : Network → List (List Rule) → List DemandView → ℕ
count_under net tables demands = class_count (classes_under net tables demands)

-- the configuration has a good path for each of its classes
abbrev pub HoldsUnder : Network → List (List Rule) → List DemandView → Type 0
HoldsUnder net tables demands = HasGoodPaths net tables demands (classes_under net tables demands)

-- the line names the first class whose path isn't good, and how it breaks its duties
pub record IsBreaksLine (net : Network) (tables : List (List Rule)) (demands : List DemandView) (line : List ℕ) : Type 0 where
  pub break : Breaks
  pub first : IsFirstBreak net tables demands (classes_under net tables demands) break
  pub class : Class
  pub is_class : IsClass (classes_under net tables demands) break.class class
  pub line_is : line ≡ breaks_line net class break.how

-- the answer on a configuration under a policy: good paths for all classes are good paths for all entries and addresses
abbrev pub IsVerdict : Network → List (List Rule) → List DemandView → Answer → Type 0
IsVerdict net tables demands answer =
    IsJudgement (count_under net tables demands) (HoldsUnder net tables demands) (HasGoodPathEverywhere net tables demands)
    (holds_line (count_under net tables demands)) (IsBreaksLine net tables demands) answer
