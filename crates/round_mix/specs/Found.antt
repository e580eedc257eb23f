-- The possible outcomes of a place while the changes of a round are made.
use Rattle.std.specs.Prelude.{◌↔◌, ℕ, List}
use Rattle.net_base.specs.Members.{IsIn}
use Rattle.net_base.specs.declared.ids.Place.{Place}
use Rattle.topology.specs.Networks.{Network}
use Rattle.flow_rules.specs.declared.rules.Rule.{Rule}
use Rattle.path_walk.specs.declared.Outcome.{Outcome}
use Rattle.update_model.specs.Mixtures.{MayBe}
use Rattle.update_model.specs.declared.Change.{Change}

-- a list of outcomes, and how many more there is room for
pub record OutcomesState : Type 0 where
  pub list : List Outcome
  pub spare : ℕ

-- exactly the outcomes of the place over all mixtures
abbrev pub AreAllOutcomes : Network → List Rule → List Change → Place → ℕ → List Outcome → Type 0
AreAllOutcomes net table changes place dst list = (found : Outcome) → IsIn found list ↔ MayBe net table changes place dst found
