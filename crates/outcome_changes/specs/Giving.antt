-- Changes of a round, by their numbers, after which a place has an outcome.
use Rattle.std.specs.Prelude.{◌≡◌, ℕ, List, filter_map, slice_get, Some}
use Rattle.std.specs.List.{AllByRecursion}
use Rattle.std.specs.List.Sorted.{IsStrictlyIncreasing}
use Rattle.net_base.specs.declared.ids.SwitchId.{SwitchId}
use Rattle.net_base.specs.declared.ids.Place.{Place}
use Rattle.topology.specs.Networks.{Network}
use Rattle.flow_rules.specs.declared.rules.Rule.{Rule}
use Rattle.path_walk.specs.Outcomes.{outcome}
use Rattle.path_walk.specs.declared.Outcome.{Outcome}
use Rattle.update_model.specs.Changes.{switch_of, rules_after}
use Rattle.update_model.specs.declared.Change.{Change}

-- change i of the round is at the switch
pub record IsChangeAt (round : List Change) (s : SwitchId) (i : ℕ) : Type 0 where
  pub change : Change
  pub is : slice_get round i ≡ Some change
  pub at : switch_of change ≡ s

-- the changes of the round with these numbers
abbrev pub changes_numbered : List Change → List ℕ → List Change
changes_numbered round numbers = filter_map (slice_get round) numbers

-- the numbers are ascending, their changes are at the switch of the place, and after them the place has the outcome
pub record GiveOutcome (net : Network) (rules : List Rule) (round : List Change) (place : Place) (dst : ℕ) (wanted : Outcome) (numbers : List ℕ) : Type 0 where
  pub rise : IsStrictlyIncreasing numbers
  pub there : AllByRecursion (IsChangeAt round place.switch) numbers
  pub gives : outcome net (rules_after (changes_numbered round numbers) rules) place dst ≡ wanted
