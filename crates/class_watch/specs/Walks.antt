-- Where packets of a class come, and which changes they may meet there.
use Rattle.std.specs.Prelude.{◌≡◌, ◌&&◌, ℕ, zero, suc, Bool, IsTrue, List, [], slice_get, Some}
use Rattle.std.specs.List.{list_any}
use Rattle.net_base.specs.declared.ids.Place.{Place}
use Rattle.topology.specs.Networks.{Network}
use Rattle.flow_rules.specs.declared.rules.Rule.{Rule}
use Rattle.dest_classes.specs.declared.Class.{Class}
use Rattle.update_model.specs.Changes.{switch_of}
use Rattle.update_model.specs.Mixtures.{Rollout, IsOnMixedWalk}
use Rattle.update_model.specs.declared.Change.{Change}
use Rattle.check_reasons.specs.Touched.{may_cover}
use Rattle.net_base.specs.Switches.{has}

-- the set has each switch that the mixed walks of the class come to in round k
abbrev pub HoldsWalks : Rollout → ℕ → Class → ℕ → Type 0
HoldsWalks u k class set = (place : Place) → IsOnMixedWalk u k class.first class.entry place → IsTrue (has set place.switch)

-- the set holds the walks of the class in the round before round k; before the first round nothing is asked for
abbrev pub HoldsWalksBefore : Rollout → ℕ → Class → ℕ → Type 0
HoldsWalksBefore u zero class set = Unit {0}
HoldsWalksBefore u (suc k) class set = HoldsWalks u k class set

-- so for each class, with its set
abbrev pub WalksStand : Rollout → ℕ → List Class → List ℕ → Type 0
WalksStand u k classes came =
    (n : ℕ) (class : Class) (set : ℕ) → slice_get classes n ≡ Some class → slice_get came n ≡ Some set → HoldsWalksBefore u k class set

-- the tables, with no round
abbrev pub at_rest : Network → List (List Rule) → Rollout
at_rest net tables = record { net = net; old = tables; rounds = [] }

-- the set has each switch that packets of the class come to in the tables
abbrev pub HoldsTables : Network → List (List Rule) → Class → ℕ → Type 0
HoldsTables net tables class set = HoldsWalks (at_rest net tables) 0 class set

-- whether the change may cover packets of the class, and is at a switch of the set
abbrev pub meets : Change → Class → ℕ → Bool
meets c class set = may_cover c class && has set (switch_of c)

-- so for a change of the round
abbrev pub meets_any : List Change → Class → ℕ → Bool
meets_any round class set = list_any (λ c. meets c class set) round
