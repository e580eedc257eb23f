-- Places that walks come to, by their numbers, and the steps between them.
use Rattle.std.specs.Prelude.{◌≡◌, ◌⊎◌, ◌<◌, ℕ, Bool, true, false, List, ◌++◌, map, slice_get, slice_index_or, Some}
use Rattle.net_base.specs.Members.{IsIn}
use Rattle.net_base.specs.Walks.{IsWalk}
use Rattle.net_base.specs.declared.ids.SwitchId.{SwitchId}
use Rattle.net_base.specs.declared.ids.Place.{Place}
use Rattle.topology.specs.Networks.{switch_count}
use Rattle.path_walk.specs.declared.Outcome.{Outcome}
use Rattle.path_walk.specs.declared.Outcome.TheVariants.{Go}
use Rattle.update_model.specs.Mixtures.{Rollout, MayGo}
use Rattle.breaking_walks.specs.declared.passing.NumberedPlace.{NumberedPlace}
use Rattle.breaking_walks.specs.declared.passing.PlaceStep.{PlaceStep}

-- places, and steps between them
pub record StepState : Type 0 where
  pub places : List Place
  pub steps : List PlaceStep

-- the place stands at its number, with its switch
pub record StandsAt (places : List Place) (numbered : NumberedPlace) (place : Place) : Type 0 where
  pub at : slice_get places numbered.number ≡ Some place
  pub switch_is : numbered.switch ≡ place.switch

-- the steps of a list, as a relation
abbrev pub IsPlaceStep : List PlaceStep → NumberedPlace → NumberedPlace → Type 0
IsPlaceStep steps p q = IsIn (record { from = p; to = q }) steps

-- the place stands there with this number, behind those that stood there if it is new
pub record IsNumberedIn (old : StepState) (place : Place) (numbered : NumberedPlace) (new : StepState) : Type 0 where
  pub more : List Place
  pub behind : new.places ≡ old.places ++ more
  pub each : (p : Place) → IsIn p new.places → IsIn p old.places ⊎ (p ≡ place)
  pub stands : StandsAt new.places numbered place
  pub steps : new.steps ≡ old.steps

-- the steps by the outcomes of a place are added, with the places to which they lead
pub record AreStepsAdded (old : StepState) (from : NumberedPlace) (found : List Outcome) (new : StepState) : Type 0 where
  pub more : List Place
  pub behind : new.places ≡ old.places ++ more
  pub each : (p : Place) → IsIn p new.places → IsIn p old.places ⊎ IsIn (Go p) found
  pub kept : (step : PlaceStep) → IsIn step old.steps → IsIn step new.steps
  pub leaves : (step : PlaceStep) → IsIn step new.steps → IsIn step old.steps ⊎ (step.from ≡ from)
  pub added : (p : Place) → IsIn (Go p) found → (to : NumberedPlace) × StandsAt new.places to p × IsPlaceStep new.steps from to

-- the places and the steps are at switches of the network, and of the first places, so many, each step is noted that a packet to the
-- address may take in round k
pub record NotesSteps (u : Rollout) (k dst : ℕ) (next : ℕ) (noted : StepState) : Type 0 where
  pub near : (p : Place) → IsIn p noted.places → p.switch.0 < switch_count u.net
  pub within : (step : PlaceStep) → IsIn step noted.steps → step.from.switch.0 < switch_count u.net
  pub goes : (from : NumberedPlace) (p q : Place) → from.number < next → StandsAt noted.places from p → MayGo u k dst p q
      → (to : NumberedPlace) × StandsAt noted.places to q × IsPlaceStep noted.steps from to

-- a place is marked
abbrev pub IsMarkedPlace : List Bool → NumberedPlace → Type 0
IsMarkedPlace marks p = slice_index_or marks p.number false ≡ true

-- a place is at the switch, or marked
abbrev pub IsBehind : List Bool → SwitchId → NumberedPlace → Type 0
IsBehind marks s p = (p.switch ≡ s) ⊎ IsMarkedPlace marks p

-- a step from the switch or a marked place leads to a marked place of another switch
abbrev pub LeadsOn : List Bool → SwitchId → PlaceStep → Type 0
LeadsOn marks s step = IsBehind marks s step.from → IsMarkedPlace marks step.to × ¬ (step.to.switch ≡ s)

-- no walk along the steps comes back to the switch
abbrev pub NeverBack : List PlaceStep → SwitchId → Type 0
NeverBack steps s = (p : NumberedPlace) (rest : List NumberedPlace) → p.switch ≡ s → IsWalk (IsPlaceStep steps) p rest → ¬ IsIn s (map (λ q. q.switch) rest)
