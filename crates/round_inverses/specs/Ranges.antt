-- The ranges of the numbers of the rounds that take others back.
use Rattle.std.specs.Prelude.{List}
use Rattle.std.specs.List.{AllByRecursion}
use Rattle.topology.specs.Networks.{Network}
use Rattle.update_model.specs.Ranges.{IsPlanChange}
use Rattle.update_model.specs.declared.Change.{Change}

-- rounds of changes in range
abbrev pub ArePlanRounds : Network → List (List Change) → Type 0
ArePlanRounds net rounds = AllByRecursion (AllByRecursion (IsPlanChange net)) rounds
