-- Rounds that may stand among the tried ones of a plan.
use Rattle.std.specs.Prelude.{◌≡◌, ◌≤◌, List, length}
use Rattle.std.specs.List.{AllByRecursion}
use Rattle.topology.specs.Networks.{Network}
use Rattle.update_model.specs.Ranges.{IsPlanChange}
use Rattle.update_model.specs.declared.Change.{Change}

-- at most 4096 rounds, each of one change with numbers in range
pub record AreTried (net : Network) (rounds : List (List Change)) : Type 0 where
  pub few : length rounds ≤ 4096
  pub single : AllByRecursion (λ round. length round ≡ 1) rounds
  pub ranges : AllByRecursion (AllByRecursion (IsPlanChange net)) rounds
